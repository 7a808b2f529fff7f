pub mod RecordBack
