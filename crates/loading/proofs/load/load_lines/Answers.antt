use Rattle.std.proofs.Common.{◌≡◌, ◌∷◌, [], ◌<◌, ◌+◌, eqb, length, refl, ◌∙◌, arith, rules, tests}
use Rattle.std.specs.Slice.Iter.{split_inclusive_rest}
use Rattle.std.specs.Iterator.Adapters.{enumerate_source, enumerate_count}
use Rattle.std.proofs.lemmas.List.Sorted.{answers_always}
use Rattle.meaning.specs.declared.refusals.LineFault.TheVariants.{Table}
use Rattle.meaning.specs.declared.refusals.TableFault.TheVariants.{Form}
use Rattle.std.proofs.lemmas.Result.{err_from_is_err_and}
use Rattle.meaning.specs.Bytes.{parted}
use Rattle.meaning.specs.Files.{nothing}
use Rattle.machines.specs.Held.{held_lines, rooms_of}
use Rattle.loading.proofs.OfLoop.{left_start, bad_line, good_line, no_more}
use Rattle.loading.proofs.OfPieces.{piece_is, cut_line}
use Rattle.loading.proofs.load.load_lines.Goals as goal

pub returns-in_err-at_line-clause-answer : goal.returns-in_err-at_line-clause-answer
returns-in_err-at_line-clause-answer c = λ b.
    let r = rooms_of c.args.table.now in
    let file = c.args.file.now in
    let cut : (parted 10 file ≡ c.in_ok-first.first.now ∷ parted 10 c.in_ok-first.rest.now) × (length c.in_ok-first.rest.now < length file) = search rules in
    let p = err_from_is_err_and c.from_residual-in_err-at_line.result c.from_residual-in_err-at_line.ensures.1 in
    let start = left_start r file (omega arith) in
    rw (p.1, p.2) (bad_line r file nothing 0 file c.in_ok-first.first.now c.in_ok-first.rest.now c.take_first.result c.take_first.new.sheet (held_lines c.args.table.now) c.in_err-at_line.field-0.0 start cut.0 (c.take_first.ensures r (held_lines c.args.table.now) b.1) c.in_err-at_line.ensures)

pub loop-n-init : goal.loop-n-init
loop-n-init c =
    let r = rooms_of c.args.table.now in
    let file = c.args.file.now in
    let cut : (parted 10 file ≡ c.in_ok-first.first.now ∷ parted 10 c.in_ok-first.rest.now) × (length c.in_ok-first.rest.now < length file) = search rules in
    let start = left_start r file (omega arith) in
    let count : enumerate_count c.into_iter-n-iterator.result ≡ 0 = search rules in
    let rest : split_inclusive_rest (enumerate_source c.into_iter-n-iterator.result) ≡ c.in_ok-first.rest.now = search rules in
    rw (count, rest) (
      (λ b. good_line r file nothing 0 file c.in_ok-first.first.now c.in_ok-first.rest.now c.take_first.result c.take_first.new.sheet (held_lines c.args.table.now) c.in_ok-at_line.field-0 start cut.0
          (c.take_first.ensures r (held_lines c.args.table.now) b.1) c.in_ok-at_line.ensures),
      (refl, refl, refl),
      omega arith,
    )

pub returns-in_err-text-clause-answer : goal.returns-in_err-text-clause-answer
returns-in_err-text-clause-answer c = λ b.
    let v = c.loop-n in
    let s = c.in-Some.ensures.steps in
    let g = v.invariant.0 b in
    let p = err_from_is_err_and c.from_residual-in_err-text.result c.from_residual-in_err-text.ensures.1 in
    let f = (s.0.1.2 (λ b. eqb b 10) (answers_always _ _ _ (λ f a r g h. search (rules, tests)))).1 in
    let piece = piece_is _ c.in-Some.piece.now (split_inclusive_rest (enumerate_source c.next.new.self)) s.0.1.0 s.0.0 s.0.1.1 f c.strip_suffix.result c.strip_suffix.ensures.cases in
    let rest = split_inclusive_rest (enumerate_source v.n-iterator) in
    let alone : parted 10 rest ≡ rest ∷ [] = search (rules, piece) in
    let line : c.in_err-text.field-0.0 ≡ record { line = enumerate_count v.n-iterator + 1 + 1; fault = Table Form } = let at = s.1 in search (rules, arith) in
    rw (p.1, p.2, line) (cut_line (rooms_of c.args.table.now) c.args.file.now g.so_far _ _ g.left_over s.0.2 alone)

pub loop-n-preserved : goal.loop-n-preserved
loop-n-preserved c =
    let v = c.loop-n in
    let t = c.take_line in
    let kept = t.ensures.areas in
    let s = c.in-Some.ensures.steps in
    let f = (s.0.1.2 (λ b. eqb b 10) (answers_always _ _ _ (λ f a r g h. search (rules, tests)))).1 in
    let piece = piece_is _ c.in-Some.piece.now (split_inclusive_rest (enumerate_source c.next.new.self)) s.0.1.0 s.0.0 s.0.1.1 f c.strip_suffix.result c.strip_suffix.ensures.cases in
    let rest = split_inclusive_rest (enumerate_source v.n-iterator) in
    let more = split_inclusive_rest (enumerate_source c.next.new.self) in
    let parts : (parted 10 rest ≡ c.in_ok-text.text.now ∷ parted 10 more) × (length more < length rest) = search (rules, piece) in
    let at : c.in-Some.n + 2 ≡ enumerate_count v.n-iterator + 1 + 1 = omega (arith, s.1) in
    rw s.2 (
      (λ b.
          let g = v.invariant.0 b in
          good_line (rooms_of c.args.table.now) c.args.file.now g.so_far _ rest c.in_ok-text.text.now more t.result t.new.sheet (held_lines t.new.table) c.in_ok-at_line-2.field-0 g.left_over parts.0
          (rw v.invariant.1.0 at (t.ensures.takes g.so_far g.holds)) (rw at at c.in_ok-at_line-2.ensures)),
      (kept.0 ∙ v.invariant.1.0, kept.1 ∙ v.invariant.1.1, kept.2 ∙ v.invariant.1.2),
      omega (arith, parts.1),
    )

pub returns-in_err-at_line-2-clause-answer : goal.returns-in_err-at_line-2-clause-answer
returns-in_err-at_line-2-clause-answer c = λ b.
    let v = c.loop-n in
    let t = c.take_line in
    let s = c.in-Some.ensures.steps in
    let g = v.invariant.0 b in
    let p = err_from_is_err_and c.from_residual-in_err-at_line-2.result c.from_residual-in_err-at_line-2.ensures.1 in
    let f = (s.0.1.2 (λ b. eqb b 10) (answers_always _ _ _ (λ f a r g h. search (rules, tests)))).1 in
    let piece = piece_is _ c.in-Some.piece.now (split_inclusive_rest (enumerate_source c.next.new.self)) s.0.1.0 s.0.0 s.0.1.1 f c.strip_suffix.result c.strip_suffix.ensures.cases in
    let rest = split_inclusive_rest (enumerate_source v.n-iterator) in
    let more = split_inclusive_rest (enumerate_source c.next.new.self) in
    let parts : (parted 10 rest ≡ c.in_ok-text.text.now ∷ parted 10 more) × (length more < length rest) = search (rules, piece) in
    let at : c.in-Some.n + 2 ≡ enumerate_count v.n-iterator + 1 + 1 = omega (arith, s.1) in
    rw (p.1, p.2) (bad_line (rooms_of c.args.table.now) c.args.file.now g.so_far _ rest c.in_ok-text.text.now more t.result t.new.sheet (held_lines t.new.table) c.in_err-at_line-2.field-0.0 g.left_over parts.0
    (rw v.invariant.1.0 at (t.ensures.takes g.so_far g.holds)) (rw at at c.in_err-at_line-2.ensures))

pub returns-clause-accepted : goal.returns-clause-accepted
returns-clause-accepted c = λ b.
    let v = c.loop-n in
    let s = c.in-None.ensures.steps in
    no_more (rooms_of c.args.table.now) c.args.file.now v.sheet (held_lines v.table) _ _ (v.invariant.0 b) (omega (arith, s.0.0))
