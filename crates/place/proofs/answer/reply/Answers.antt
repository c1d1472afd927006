-- A failed read cut the list short, or what `put_output` leaves in the buffer is the output for the whole input. Assumes nothing.
use Rattle.std.proofs.Common.{rules}
use Rattle.place.specs.Reply.{Whole}
use Rattle.place.specs.ReplyLaws.{is_output_for, replied-known}
use Rattle.place.proofs.answer.reply.Goals as goal
use Rattle.place.proofs.answer.reply.Goals.{After-put_output-written}

replied : (g : _) (c : After-put_output-written g) → Whole c.args.how.way c.args.how.at c.args.text.now c.read_input.new.text
    (record { read = c.in_ok-read.read; written = c.put_output-written.result }) c.put_output-written.new.buffer
replied g c =
    record {
      all_read = search rules;
      size = search rules;
      is_output_for = is_output_for _ _ _ _ c.put_output-written.ensures.length c.put_output-written.ensures.buffer;
    }

pub returns-clause-replied : goal.returns-clause-replied
returns-clause-replied g c = replied g c

pub returns-clause-known : goal.returns-clause-known
returns-clause-known g c = replied-known (replied g c) _ _ c.in_ok-read.ensures.bytes c.in_ok-read.ensures.end
