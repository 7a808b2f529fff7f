-- Each part behind those before it, and nothing behind a write that failed.
use Rattle.std.proofs.KnownBytes.{Appends-nil}
use Rattle.transfer.proofs.Told.{says_four}
use Rattle.transfer.proofs.failure.write_text.Goals as goal

pub returns-in_err-write : goal.returns-in_err-write
returns-in_err-write g c = says_four _ _ _ _ _ _ 0 0 0 _ _ _ _ (rw c.as_bytes.ensures.value at c.write.ensures.bytes) (Appends-nil _) (Appends-nil _) (Appends-nil _)

pub returns-in_err-write-2 : goal.returns-in_err-write-2
returns-in_err-write-2 g c =
    says_four _ _ _ _ _ _ _ 0 0 _ _ _ _ (rw c.as_bytes.ensures.value at c.write.ensures.bytes) (rw c.as_bytes-2.ensures.value at c.write-2.ensures.bytes) (Appends-nil _) (Appends-nil _)

pub returns-in_err-write-3 : goal.returns-in_err-write-3
returns-in_err-write-3 g c =
    says_four _ _ _ _ _ _ _ _ 0 _ _ _ _ (rw c.as_bytes.ensures.value at c.write.ensures.bytes) (rw c.as_bytes-2.ensures.value at c.write-2.ensures.bytes)
    (rw c.as_bytes-3.ensures.value at c.write-3.ensures.bytes) (Appends-nil _)

pub returns : goal.returns
returns g c =
    says_four _ _ _ _ _ _ _ _ _ _ _ _ _ (rw c.as_bytes.ensures.value at c.write.ensures.bytes) (rw c.as_bytes-2.ensures.value at c.write-2.ensures.bytes)
    (rw c.as_bytes-3.ensures.value at c.write-3.ensures.bytes) (rw c.as_bytes-4.ensures.value at c.write-4.ensures.bytes)
