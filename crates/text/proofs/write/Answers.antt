use Rattle.text.proofs.Rooms.{outside_leaves, no_room_leaves, copied}
use Rattle.basis.proofs.Tests.{no, yes as good}
use mathlib.Core.Path.{ap, ◌∙◌}
use lib.ListN.{length}
use Rattle.text.proofs.write.Goals as goal

pub returns-then-not-value_ok : goal.returns-then-not-value_ok
returns-then-not-value_ok c =
    let o = outside_leaves c.args.v c.args.room.now (no c.value_ok.ensures c.if-not-value_ok.true) in
    record { result_value = c.refused.ensures ∙ o.0; room_after = o.1 }

pub text_of-text-requires : goal.text_of-text-requires
text_of-text-requires c = good c.value_ok.ensures c.if-not-value_ok.false

pub returns-then-room-n : goal.returns-then-room-n
returns-then-room-n c =
    let o = no_room_leaves c.args.v c.args.room.now (good c.value_ok.ensures c.if-not-value_ok.false) _ (ap length (c.as_slice-bytes.ensures.value ∙ c.text_of-text.ensures)) c.if-room-n.true in
    record { result_value = c.refused-then-room-n.ensures ∙ o.0; room_after = o.1 }

pub returns : goal.returns
returns c =
    let e = c.as_slice-bytes.ensures.value ∙ c.text_of-text.ensures in
    let o = copied c.args.v c.args.room.now (good c.value_ok.ensures c.if-not-value_ok.false) _ (ap length e) c.if-room-n.false c.copy_from_slice.new.self (c.copy_from_slice.ensures.after ∙ e) in
    record { result_value = o.0; room_after = o.1 }
