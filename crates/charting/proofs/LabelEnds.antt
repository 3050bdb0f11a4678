-- A closed list of labels has them all; a full one with another has too many. Assumes nothing.
use Rattle.std.proofs.Common.{◌≡◌, ℕ, suc, ◌+◌, ◌*◌, ◌<◌, Bool, false, List, [], ◌∷◌, length, get_or, Some, None, Option, MatchOption, sym, refl, ap, ◌∙◌, arith}
use Rattle.logic.specs.Formula.{Formula, Letters}
use Rattle.logic.specs.Labels.{label}
use Rattle.logic.specs.Masks.{mask}
use Rattle.logic.specs.Counting.{More}
use Rattle.logic.specs.Standings.{SameLabel}
use Rattle.logic.proofs.Sat.{sat_nil}
use Rattle.logic.proofs.Masks.{masks_differ}
use Rattle.charting.specs.Worklists.{Complete, Overflows}
use Rattle.charting.specs.Labels.{Labels, at_front, Labelled}
use Rattle.charting.proofs.WorklistEnds.{counted, too_many}

pub mask_empty : (ks : List Formula) → mask (label ks []) ≡ 0
mask_empty [] = refl
mask_empty (k ∷ ks) =
    let e : label (k ∷ ks) [] ≡ false ∷ label ks [] = ap {B = List Bool} (λ b. b ∷ label ks []) (sat_nil k) in
    let m = mask_empty ks in
    ap mask e ∙ omega arith

pub label_length : (ks : List Formula) (u : List ℕ) → length (label ks u) ≡ length ks
label_length [] u = refl
label_length (k ∷ ks) u = ap suc (label_length ks u)

pub mask_same : (ks : List Formula) (u v : List ℕ) → mask (label ks u) ≡ mask (label ks v) → label ks u ≡ label ks v
mask_same ks u v e = masks_differ (label ks u) (label ks v) (label_length ks u ∙ sym (label_length ks v)) e

labels_alike : (ks : List Formula) (u v : List ℕ) (x y : ℕ) → Letters u → Letters v → Labels ks u x → Labels ks v y → SameLabel ks u v → x ≡ y
labels_alike ks u v x y lu lv p q e = p ∙ ap mask e ∙ sym q

module _ (ks : List Formula) (ls tb : List ℕ) (n : ℕ) (c : Complete (λ x y. x ≡ y) 0 (Labels ks) at_front ls n tb) where
  -- the number of a word's label, by the table
  unfoldable number : List ℕ → ℕ
  number [] = 0
  number (s ∷ w) = get_or tb (number w * 256 + s) 0

  number_is : (w : List ℕ) → Letters w → (number w < n) × Labels ks w (get_or ls (number w) 0)
  unfolding number
  number_is [] l = (c.some, c.empty)
  number_is (s ∷ w) l =
      let h = number_is w l.1 in
      let r = c.rows.at (number w) h.0 in
      (r.below s l.0, r.names s l.0 w h.1)

  labelled : Labelled ks ls n tb
  labelled =
      let all : (w : List ℕ) → Letters w → (k : ℕ) × (k < n) × Labels ks w (get_or ls k 0) = λ w l. let h = number_is w l in (number w, h.0, h.1) in
      record {
        fits = c.fits;
        some = c.some;
        apart = c.apart;
        words = c.walks;
        empty = c.empty;
        all = all;
        rows = c.rows;
        count = counted (λ x y. x ≡ y) 0 (Labels ks) (SameLabel ks) (labels_alike ks) (λ u v x lu lv p q. mask_same ks u v (sym p ∙ q)) ls n c.apart c.walks all;
      }

-- a closed list of labels, or too many of them
pub labels_told : (ks : List Formula) (room : ℕ) (r : Option ℕ) (ls tb : List ℕ)
    → MatchOption r (Overflows (λ x y. x ≡ y) 0 (Labels ks) room) (λ n. Complete (λ x y. x ≡ y) 0 (Labels ks) at_front ls n tb)
    → MatchOption r (More room Letters (SameLabel ks)) (λ n. Labelled ks ls n tb)
labels_told ks room None ls tb h = too_many (λ x y. x ≡ y) 0 (Labels ks) (SameLabel ks) (labels_alike ks) room h
labels_told ks room (Some n) ls tb h = labelled ks ls tb n h
