use Rattle.std.proofs.Common.{◌&&◌, ◌||◌, sym, ap₂, ◌∙◌}
use Rattle.formulas.proofs.Words.{all_on, none_on, on_and, on_or, column_at}
use Rattle.formulas.proofs.labels.value_of.Goals as goal

pub returns-in-True : goal.returns-in-True
returns-in-True c = rw c.in-True.is (λ b l. all_on b l)

pub returns-in-False : goal.returns-in-False
returns-in-False c = rw c.in-False.is (λ b l. none_on b)

pub returns-in-Signal : goal.returns-in-Signal
returns-in-Signal c = rw c.in-Signal.is c.wanted_word.ensures

pub returns-in-And : goal.returns-in-And
returns-in-And c =
    let h = c.args.holds.now in
    rw c.in-And.is (λ b l. on_and b _ _ ∙ ap₂ ◌&&◌ (sym (column_at b h c.in-And.a)) (sym (column_at b h c.in-And.b)))

pub returns-in-Or : goal.returns-in-Or
returns-in-Or c =
    let h = c.args.holds.now in
    rw c.in-Or.is (λ b l. on_or b _ _ ∙ ap₂ ◌||◌ (sym (column_at b h c.in-Or.a)) (sym (column_at b h c.in-Or.b)))

pub returns-in-Until : goal.returns-in-Until
returns-in-Until c =
    let h = c.args.holds.now in
    let i = c.in-Until in
    rw i.is (λ b l. on_or b _ _ ∙ ap₂ ◌||◌ (sym (column_at b h i.b)) (on_and b _ _ ∙ ap₂ ◌&&◌ (sym (column_at b h i.a)) (c.everywhere-in-Until.ensures b l)))

pub returns-in-Release : goal.returns-in-Release
returns-in-Release c =
    let h = c.args.holds.now in
    let i = c.in-Release in
    rw i.is (λ b l. on_and b _ _ ∙ ap₂ ◌&&◌ (sym (column_at b h i.b)) (on_or b _ _ ∙ ap₂ ◌||◌ (sym (column_at b h i.a)) (c.everywhere-in-Release.ensures b l)))
