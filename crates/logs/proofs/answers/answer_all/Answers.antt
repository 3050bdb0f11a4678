use Rattle.std.proofs.Common.{◌∙◌, subst, []}
use Rattle.replay.specs.Replayed.{RightAnswers}
use Rattle.logs.proofs.NewObjects.{two_pushed, if_ok_then, blank_tables, table_rooms_are}
use Rattle.logs.proofs.answers.answer_all.Goals as goal

pub returns : goal.returns
returns g c =
    let two = c.as_mut_slice.ensures.value ∙ two_pushed _ _ _ _ _ c.new-tables.ensures.items c.in_ok-push.ensures.items c.in_ok-push-2.ensures.items in
    let blank = blank_tables _ _ _ two c.table.ensures.lines c.table-2.ensures.lines in
    let rooms = table_rooms_are _ _ _ two (c.table.ensures.rooms ∙ c.in_ok-first.ensures) (c.table-2.ensures.rooms ∙ c.in_ok-second.ensures) in
    if_ok_then c.answer_on.result (λ v right. subst (λ l. RightAnswers g.M.Machine.meaning g.M.Machine.lawful l [] c.args.calls.now v.items) rooms right) (c.answer_on.ensures blank)
