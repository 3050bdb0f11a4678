use Rattle.std.proofs.Common.{◌≡◌, codes, rules, Some}
use Rattle.std.specs.Prelude.{MatchOption}
use Rattle.meaning.specs.Bytes.{after}
use Rattle.meaning.specs.Files.{mapped, rule}
use Rattle.lines.specs.Fields.{capped, fields_of, shown}
use Rattle.lines.proofs.OfFields.{line_said}
use Rattle.lines.proofs.read.Goals as goal

pub returns : goal.returns
returns c =
    let t = c.args.line.now in
    let p = c.signals_entry.result in
    let q = c.or_else.result in
    let r = c.or_else-2.result in
    let s = c.or_else-3.result in
    let b : MatchOption p (mapped shown q ≡ mapped rule (after (codes "rule,") t)) (λ x. q ≡ Some x) = search rules in
    let d : MatchOption q (mapped shown r ≡ mapped capped (fields_of (codes "state") (after (codes "state,") t))) (λ x. r ≡ Some x) = search rules in
    let e : MatchOption r (mapped shown s ≡ mapped capped (fields_of (codes "step") (after (codes "step,") t))) (λ x. s ≡ Some x) = search rules in
    line_said t p q r s c.signals_entry.ensures b d e
