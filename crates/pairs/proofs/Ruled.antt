-- From a reader to the rule that it reads: the two agree on the words of walks. Assumes nothing.
use Rattle.std.proofs.Common.{◌≡◌, ℕ, ◌<◌, ◌↔◌, List, [], ◌∷◌, length, take, Ok, Err, Result, sym, subst, ⊎_elim, arith}
use mathlib.Core.HLevel.{⊥_prop}
use mathlib.Core.Logic.{∥∥₁_elim}
use Rattle.std.specs.List.{AllByRecursion}
use Rattle.logic.specs.Counting.{Classes}
use Rattle.logic.specs.Formula.{Formula, Letters}
use Rattle.meaning.specs.declared.answers.Verdict.{Verdict}
use Rattle.meaning.specs.declared.answers.Verdict.TheVariants.{Shown, Clear}
use Rattle.meaning.specs.declared.refusals.SearchingFault.{SearchingFault}
use Rattle.meaning.specs.declared.refusals.SearchingFault.TheVariants.{Blank, NoStart, ManyStates, ShortWalkArea, PairsExceed}
use Rattle.meaning.specs.Charts.{SameStanding}
use Rattle.meaning.specs.Machines.{Meaning, Lawful, Among}
use Rattle.meaning.specs.Walks.{Steps, Walk, word, front_from, front, SamePair, Breaking, Shorter as ShorterWalk}
use Rattle.meaning.specs.Right.{Searchable, Searches}
use Rattle.pairs.specs.Readers.{Reader, standing_of, Breach, Pairs, Shorter, AnyWalk}
use Rattle.pairs.specs.Verdicts.{Answers, Reads}

-- ---- the words of walks have letters only

among_all : (P : ℕ → Type 0) (xs : List ℕ) (t : ℕ) → AllByRecursion P xs → Among t xs → P t
among_all P [] t h a = absurd a
among_all P (x ∷ xs) t h a = ⊎_elim (λ (e : t ≡ x). subst P (sym e) h.0) (λ (b : Among t xs). among_all P xs t h.1 b) a

module _ (m : Meaning) (l : Lawful m) where
  steps_letters : (s : ℕ) (ts : List ℕ) → s < m.count → Steps m s ts → Letters (word m (s ∷ ts)) × Letters (word m (front_from s ts))
  steps_letters s [] b w = ((l.letters_small s b, tt), tt)
  steps_letters s (t ∷ ts) b w =
      let h = steps_letters t ts (among_all (λ x. x < m.count) (m.steps s) t (l.steps_below s b) w.0) w.1 in
      ((l.letters_small s b, h.0), (l.letters_small s b, h.1))

  walk_letters : (xs : List ℕ) → Walk m xs → Letters (word m xs) × Letters (word m (front xs))
  walk_letters [] w = absurd w
  walk_letters (s ∷ ts) w = steps_letters s ts (among_all (λ x. x < m.count) m.starts s l.starts_below w.0) w.1

  -- ---- breaches and pairs

  module _ (f : Formula) (r : Reader) (reads : Reads f r) where
    to_breach : (xs : List ℕ) → Breach m r xs → Breaking f m xs
    to_breach xs h = (h.0, (reads.says (word m xs) (walk_letters xs h.0).0).0 h.1)

    from_breach : (xs : List ℕ) → Breaking f m xs → Breach m r xs
    from_breach xs h = (h.0, (reads.says (word m xs) (walk_letters xs h.0).0).1 h.1)

    same_standings : (xs ys : List ℕ) → Walk m xs → Walk m ys → (standing_of m r xs ≡ standing_of m r ys) ↔ SameStanding f (word m (front xs)) (word m (front ys))
    same_standings xs ys w v = reads.standings (word m (front xs)) (word m (front ys)) (walk_letters xs w).1 (walk_letters ys v).1

    -- walks with P, and the same walks with In, have as many different pairs
    module _ (P In : List ℕ → Type 0) (walks : (xs : List ℕ) → In xs → Walk m xs × P xs) (is_in : (xs : List ℕ) → Walk m xs → P xs → In xs) where
      to_classes : (n : ℕ) → Pairs m r P n → Classes In (SamePair f m) n
      to_classes n h = record {
        one = h.walk;
        inside = λ i b. is_in (h.walk i) (h.walks i b).0 (h.walks i b).1;
        covers = λ xs p. let w = walks xs p in let c = h.covers xs w.0 w.1 in
            (c.0, c.1, (c.2.0, (same_standings xs (h.walk c.0) w.0 (h.walks c.0 c.1).0).0 c.2.1));
        differ = λ i j less b e. h.differ i j less b (e.0, (same_standings (h.walk i) (h.walk j) (h.walks i (omega arith)).0 (h.walks j b).0).1 e.1);
      }

      from_classes : (n : ℕ) → Classes In (SamePair f m) n → Pairs m r P n
      from_classes n h = record {
        walk = h.one;
        walks = λ i b. walks (h.one i) (h.inside i b);
        covers = λ xs w p. let c = h.covers xs (is_in xs w p) in
            (c.0, c.1, (c.2.0, (same_standings xs (h.one c.0) w (walks (h.one c.0) (h.inside c.0 c.1)).0).1 c.2.1));
        differ = λ i j less b e. h.differ i j less b
            (e.0, (same_standings (h.one i) (h.one j) (walks (h.one i) (h.inside i (omega arith))).0 (walks (h.one j) (h.inside j b)).0).0 e.1);
      }

    shorter_walks : (k : ℕ) (n : ℕ) → Pairs m r (Shorter k) n → Classes (ShorterWalk m k) (SamePair f m) n
    shorter_walks k = to_classes (Shorter k) (ShorterWalk m k) (λ xs h. h) (λ xs w h. (w, h))

    all_walks : (n : ℕ) → Pairs m r AnyWalk n → Classes (Walk m) (SamePair f m) n
    all_walks = to_classes AnyWalk (Walk m) (λ xs h. (h, tt)) (λ xs w h. w)

    -- ---- the answer

    pub searches : (room : ℕ) (before after : List ℕ) (x : Result Verdict SearchingFault) → Searchable m room (length before) → length after ≡ length before
        → Answers m r room before after x → Searches f m room before (x, after)
    searches room before after (Ok (Shown k)) s e h = (
      s,
      record {
        same_length = e;
        within = h.within;
        shortest = record { breach = to_breach (take k after) h.shortest.breach; least = λ ys b. h.shortest.least ys (from_breach ys b) };
        fit_before = ∣ (h.fit.0, h.fit.1, shorter_walks k h.fit.0 h.fit.2) ∣₁;
        rest = h.rest;
      },
    )
    searches room before after (Ok (Clear n)) s e h = (
      s,
      record {
        none = λ ys b. h.none ys (from_breach ys b);
        fit_all = ∣ (n, h.few, all_walks n h.pairs) ∣₁;
        number = ∣ all_walks n h.pairs ∣₁;
      },
      h.stays,
    )
    searches room before after (Err PairsExceed) s e h = (
      s,
      (
        λ shown. ∥∥₁_elim shown ⊥_prop (λ x. ∥∥₁_elim x.2 ⊥_prop (λ t.
            h.no_walk (record {
              walk = x.0;
              shortest = record { breach = from_breach x.0 x.1.breach; least = λ ys b. x.1.least ys (to_breach ys b) };
              fit = (t.0, t.1, from_classes (Shorter (length x.0)) (ShorterWalk m (length x.0)) (λ xs h. h) (λ xs w h. (w, h)) t.0 t.2);
            }))),
        λ clear. ∥∥₁_elim clear.1 ⊥_prop (λ t.
            h.no_clear (record {
              none = λ ys b. clear.0 ys (to_breach ys b);
              fit = (t.0, t.1, from_classes AnyWalk (Walk m) (λ xs h. (h, tt)) (λ xs w h. w) t.0 t.2);
            })),
      ),
      h.stays,
    )
    searches room before after (Err Blank) s e h = absurd h
    searches room before after (Err NoStart) s e h = absurd h
    searches room before after (Err ManyStates) s e h = absurd h
    searches room before after (Err ShortWalkArea) s e h = absurd h
