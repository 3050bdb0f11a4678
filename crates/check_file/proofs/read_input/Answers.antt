use Rattle.std.proofs.Common.{◌+◌, ◌-◌, ◌≤◌, ◌∙◌, rules}
use borrow.Rule.Slice.PartMut.{same_len_mid}
use Rattle.check_file.proofs.read_input.Goals as goal

pub loop-count-preserved : goal.loop-count-preserved
loop-count-preserved c =
    let fits : c.loop-count.count + c.in_ok-more.more ≤ 8193 = search rules in
    (fits, same_len_mid c.loop-count.count (8193 - c.loop-count.count) c.loop-count.bytes c.read_some.new.bytes c.read_some.auto.bytes ∙ c.loop-count.invariant.1)
