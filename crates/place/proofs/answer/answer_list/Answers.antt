-- What is explained is a refused list. Assumes nothing.
use Rattle.std.proofs.Common.{◌≡◌, Ok, rules}
use Rattle.place.specs.Reply.{Whole}
use Rattle.place.specs.ReplyLaws.{replied-writable}
use Rattle.place.proofs.answer.answer_list.Goals as goal

pub tell_refused-requires : goal.tell_refused-requires
tell_refused-requires g c =
    let was : c.reply.result ≡ Ok c.in_ok-answer.answer = search rules in
    let whole : Whole c.args.how.way c.args.how.at _ c.reply.new.text c.in_ok-answer.answer c.reply.new.buffer = rw was at c.reply.ensures.replied in
    let writable = replied-writable whole in
    search rules
