use Rattle.std.proofs.Common.{length}
use Rattle.sheet.proofs.ReplyWithin.{reply_within}
use Rattle.curve_c.proofs.sheets.curve_sheet.Goals as goal

pub put_reply-requires : goal.put_reply-requires
put_reply-requires c =
    rw c.read_sheet-reply.ensures.value (reply_within c.args.bytes.now (length c.args.list.now))
