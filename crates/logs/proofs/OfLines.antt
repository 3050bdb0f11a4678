-- A line tells a call exactly where it writes it. Assumes nothing.
use Rattle.std.proofs.Common.{◌≡◌, ℕ, suc, ◌+◌, ◌<◌, Bool, true, false, cond, not, eqb, List, [], ◌∷◌, ◌++◌, length, take, drop, get_or, Some, None, Option, codes, sym, refl, ap, ◌∙◌, subst, ap₂, arith, nat_lt, length-append}
use Rattle.std.proofs.lemmas.Bool.{and_parts, eqb-true, cond-true, lt-ltb}
use Rattle.std.proofs.lemmas.List.{take-append-drop}
use Rattle.std.specs.List.{position, position_or_len}
use Rattle.std.specs.Option.{option_map, option_and_then}
use Rattle.std.proofs.Math.Seq.{drop-cons, drop-append-add, take-append_seam}
use Rattle.std.proofs.lemmas.List.Quantifiers.{position-Some}
use Rattle.meaning.specs.Bytes.{Text, parted, after, number}
use Rattle.meaning.proofs.OfHistories.{some_same}
use Rattle.meaning.proofs.OfWords.{lacks, joined, joined_parted}
use Rattle.meaning.proofs.OfEntries.{no_some, after_is, number_lacks}
use Rattle.logs.specs.Told.{Base, on_table, on_round, on_another, Told, opens, enters, loads, fills, begins, scans, finds, cut_at, if_less, small, byte, numbered, bytes_in, bytes, opening, entering, unfolded, loading, filling, beginning, scanning, table_ground, round_ground, by_word, ground, machine, chart_and_areas, finding, chart_call, call}
use Rattle.logs.specs.Lines.{WritesBase, Writes, LinesTellTheCallsThatTheyWrite}

-- ---- options

map_some : {X Y : Type 0} (f : X → Y) (o : Option X) (y : Y) → option_map f o ≡ Some y → (x : X) × (o ≡ Some x) × (f x ≡ y)
map_some f None y e = absurd (no_some y e)
map_some f (Some x) y e = (x, refl, some_same (f x) y e)

then_some : {X Y : Type 0} (f : X → Option Y) (o : Option X) (y : Y) → option_and_then f o ≡ Some y → (x : X) × (o ≡ Some x) × (f x ≡ Some y)
then_some f None y e = absurd (no_some y e)
then_some f (Some x) y e = (x, refl, e)

-- ---- a field before a comma

cut_is : (t a b : Text) → cut_at 44 t ≡ Some (a, b) → t ≡ a ++ (44 ∷ b)
cut_is t a b e =
    let k = map_some (λ (i : ℕ). (take i t, drop (i + 1) t)) (position (λ (b : ℕ). eqb b 44) t) (a, b) e in
    let i = k.0 in
    let s = position-Some (λ (b : ℕ). eqb b 44) t i 0 k.1 in
    let byte : get_or t i 0 ≡ 44 = eqb-true (get_or t i 0) 44 s.1 in
    let next : i + 1 ≡ suc i = omega arith in
    let front : take i t ≡ a = ap (λ (x : Text × Text). x.0) k.2 in
    let rest : drop (i + 1) t ≡ b = ap (λ (x : Text × Text). x.1) k.2 in
    sym (take-append-drop i t) ∙ ap₂ ◌++◌ front (drop-cons t i 0 s.0 ∙ ap₂ ◌∷◌ byte (ap (λ n. drop n t) (sym next) ∙ rest))

prefix_is : (a b : Text) → lacks 44 a ≡ true → position_or_len (λ (x : ℕ). eqb x 44) (a ++ (44 ∷ b)) ≡ length a
prefix_is [] b h = refl
prefix_is (c ∷ cs) b h =
    let k = and_parts (not (eqb c 44)) _ h in
    let rest : position_or_len (λ (x : ℕ). eqb x 44) (cs ++ (44 ∷ b)) ≡ length cs = prefix_is cs b k.1 in
    cond-true (not (eqb c 44)) (1 + position_or_len (λ (x : ℕ). eqb x 44) (cs ++ (44 ∷ b))) 0 k.0 ∙ omega (arith, rest)

first_comma : (a b : Text) → lacks 44 a ≡ true → cut_at 44 (a ++ (44 ∷ b)) ≡ Some (a, b)
first_comma a b h =
    let t = a ++ (44 ∷ b) in
    let many = length-append a (44 ∷ b) in
    let within : nat_lt (length a) (length t) ≡ true = lt-ltb (length a) (length t) (omega (arith, many)) in
    let found : position (λ (x : ℕ). eqb x 44) t ≡ Some (length a) = ap (λ n. cond (nat_lt n (length t)) (Some n) None) (prefix_is a b h) ∙ cond-true (nat_lt (length a) (length t)) _ _ within in
    ap (option_map (λ (i : ℕ). (take i t, drop (i + 1) t))) found ∙ ap₂ (λ x y. Some (x, y)) (take-append_seam a (44 ∷ b)) (drop-append-add a (44 ∷ b) 1)

-- ---- numbers

-- a number below a limit has no commas and no spaces
limited_lacks : (c limit : ℕ) (t : Text) (n : ℕ) → c < 48 → option_and_then (if_less limit) (number t) ≡ Some n → lacks c t ≡ true
limited_lacks c limit t n low e = let k = then_some (if_less limit) (number t) n e in number_lacks c t k.0 low k.1

numbered_is : (t : Text) (p : ℕ × Text) → numbered t ≡ Some p → (x : Text) × (t ≡ x ++ (44 ∷ p.1)) × (small x ≡ Some p.0)
numbered_is t p e =
    let k = then_some (λ (q : Text × Text). option_map (λ (n : ℕ). (n, q.1)) (small q.0)) (cut_at 44 t) p e in
    let j = map_some (λ (n : ℕ). (n, k.0.1)) (small k.0.0) p k.2 in
    (k.0.0, cut_is t k.0.0 k.0.1 k.1 ∙ ap (λ (q : ℕ × Text). k.0.0 ++ (44 ∷ q.1)) j.2, j.1 ∙ ap (λ (q : ℕ × Text). Some q.0) j.2)

numbered_of : (x r : Text) (n : ℕ) → small x ≡ Some n → numbered (x ++ (44 ∷ r)) ≡ Some (n, r)
numbered_of x r n e =
    ap (option_and_then (λ (q : Text × Text). option_map (λ (i : ℕ). (i, q.1)) (small q.0))) (first_comma x r (limited_lacks 44 65536 x n (omega arith) e))
    ∙ ap (option_map (λ (i : ℕ). (i, r))) e

-- ---- numbers parted by spaces have no commas

lacks_both : (a b : Text) → lacks 44 a ≡ true → lacks 44 b ≡ true → lacks 44 (a ++ b) ≡ true
lacks_both [] b h k = k
lacks_both (c ∷ cs) b h k = let j = and_parts (not (eqb c 44)) _ h in rw j.0 (lacks_both cs b j.1 k)

parts_lack : (ps : List Text) (ns : List ℕ) → bytes_in ps ≡ Some ns → lacks 44 (joined 32 ps) ≡ true
parts_lack [] ns e = refl
parts_lack (p ∷ ps) ns e =
    let k = then_some (λ (n : ℕ). option_map (λ (ms : List ℕ). n ∷ ms) (bytes_in ps)) (byte p) ns e in
    let j = map_some (λ (ms : List ℕ). k.0 ∷ ms) (bytes_in ps) ns k.2 in
    go ps (limited_lacks 44 256 p k.0 (omega arith) k.1) (parts_lack ps j.0 j.1)
  where
    go : (qs : List Text) → lacks 44 p ≡ true → lacks 44 (joined 32 qs) ≡ true → lacks 44 (joined 32 (p ∷ qs)) ≡ true
    go [] h i = h
    go (q ∷ qs) h i = lacks_both p (32 ∷ joined 32 (q ∷ qs)) h i

bytes_lack : (t : Text) (ns : List ℕ) → bytes t ≡ Some ns → lacks 44 t ≡ true
bytes_lack [] ns e = refl
bytes_lack (b ∷ bs) ns e = subst (λ t. lacks 44 t ≡ true) (joined_parted 32 (b ∷ bs)) (parts_lack (parted 32 (b ∷ bs)) ns e)

-- ---- what a machine stands on

base_is : (t : Text) (b : Base) → ground t ≡ Some b → WritesBase b t
base_is t b e = go (after (codes "table,") t) (after (codes "round,") t) refl refl e
  where
    go : (o r : Option Text) → after (codes "table,") t ≡ o → after (codes "round,") t ≡ r → by_word o table_ground (by_word r round_ground None) ≡ Some b → WritesBase b t
    go (Some x) r i j k = let w = map_some on_table (small x) b k in subst (λ d. WritesBase d t) w.2 (x, after_is (codes "table,") t x i, w.1)
    go None (Some x) i j k = let w = map_some on_round (bytes x) b k in subst (λ d. WritesBase d t) w.2 (x, after_is (codes "round,") t x j, w.1)
    go None None i j k = absurd (no_some b k)

base_of : (b : Base) (t : Text) → WritesBase b t → ground t ≡ Some b
base_of (on_table n) t h = ap ground h.1 ∙ ap (option_map on_table) h.2
base_of (on_round w) t h = ap ground h.1 ∙ ap (option_map on_round) h.2
base_of on_another t h = absurd h

abbrev WritesMachine : List ℕ × Base → Text → Type 0
WritesMachine m t = (ss g : Text) × (t ≡ ss ++ (44 ∷ g)) × (bytes ss ≡ Some m.0) × WritesBase m.1 g

machine_is : (t : Text) (m : List ℕ × Base) → machine t ≡ Some m → WritesMachine m t
machine_is t m e =
    let k = then_some (λ (p : Text × Text). option_and_then (λ (ss : List ℕ). option_map (λ (g : Base). (ss, g)) (ground p.1)) (bytes p.0)) (cut_at 44 t) m e in
    let j = then_some (λ (ss : List ℕ). option_map (λ (g : Base). (ss, g)) (ground k.0.1)) (bytes k.0.0) m k.2 in
    let i = map_some (λ (g : Base). (j.0, g)) (ground k.0.1) m j.2 in
    subst (λ n. WritesMachine n t) i.2 (k.0.0, k.0.1, cut_is t k.0.0 k.0.1 k.1, j.1, base_is k.0.1 i.0 i.1)

machine_of : (m : List ℕ × Base) (ss g : Text) → bytes ss ≡ Some m.0 → WritesBase m.1 g → machine (ss ++ (44 ∷ g)) ≡ Some m
machine_of m ss g h k =
    ap (option_and_then (λ (p : Text × Text). option_and_then (λ (xs : List ℕ). option_map (λ (b : Base). (xs, b)) (ground p.1)) (bytes p.0))) (first_comma ss g (bytes_lack ss m.0 h))
    ∙ ap (option_and_then (λ (xs : List ℕ). option_map (λ (b : Base). (xs, b)) (ground g))) h ∙ ap (option_map (λ (b : Base). (m.0, b))) (base_of m.1 g k)

-- ---- a call is what is written

module _ (t : Text) (c : Told) where
  opening_is : opening t ≡ Some c → Writes c (codes "open," ++ t)
  opening_is e =
      let k = map_some (λ (p : ℕ × Text). opens p.0 p.1) (numbered t) c e in
      let x = numbered_is t k.0 k.1 in
      subst (λ d. Writes d (codes "open," ++ t)) k.2 (x.0, ap (λ w. codes "open," ++ w) x.1, x.2)

  entering_is : entering t ≡ Some c → Writes c (codes "enter," ++ t)
  entering_is e =
      let k = map_some (λ (p : ℕ × Text). enters p.0 p.1) (numbered t) c e in
      let x = numbered_is t k.0 k.1 in
      subst (λ d. Writes d (codes "enter," ++ t)) k.2 (x.0, ap (λ w. codes "enter," ++ w) x.1, x.2)

  loading_is : loading t ≡ Some c → Writes c (codes "load," ++ t)
  loading_is e =
      let k = then_some (λ (p : ℕ × Text). option_map (λ (q : ℕ × Text). loads p.0 q.0 (unfolded q.1)) (numbered p.1)) (numbered t) c e in
      let j = map_some (λ (q : ℕ × Text). loads k.0.0 q.0 (unfolded q.1)) (numbered k.0.1) c k.2 in
      let x = numbered_is t k.0 k.1 in
      let y = numbered_is k.0.1 j.0 j.1 in
      subst (λ d. Writes d (codes "load," ++ t)) j.2 (x.0, y.0, j.0.1, ap (λ w. codes "load," ++ w) (x.1 ∙ ap (λ w. x.0 ++ (44 ∷ w)) y.1), x.2, y.2, refl)

  filling_is : filling t ≡ Some c → Writes c (codes "fill," ++ t)
  filling_is e =
      let k = then_some (λ (p : ℕ × Text). option_and_then (λ (q : ℕ × Text). option_map (λ (i : ℕ). fills p.0 q.0 i) (small q.1)) (numbered p.1)) (numbered t) c e in
      let j = then_some (λ (q : ℕ × Text). option_map (λ (i : ℕ). fills k.0.0 q.0 i) (small q.1)) (numbered k.0.1) c k.2 in
      let i = map_some (λ (i : ℕ). fills k.0.0 j.0.0 i) (small j.0.1) c j.2 in
      let x = numbered_is t k.0 k.1 in
      let y = numbered_is k.0.1 j.0 j.1 in
      subst (λ d. Writes d (codes "fill," ++ t)) i.2 (x.0, y.0, j.0.1, ap (λ w. codes "fill," ++ w) (x.1 ∙ ap (λ w. x.0 ++ (44 ∷ w)) y.1), x.2, y.2, i.1)

  beginning_is : beginning t ≡ Some c → Writes c (codes "begin," ++ t)
  beginning_is e = let k = map_some begins (small t) c e in subst (λ d. Writes d (codes "begin," ++ t)) k.2 (t, refl, k.1)

  scanning_is : scanning t ≡ Some c → Writes c (codes "scan," ++ t)
  scanning_is e =
      let k = then_some (λ (p : ℕ × Text). option_map (λ (a : ℕ). scans p.0 a) (byte p.1)) (numbered t) c e in
      let j = map_some (λ (a : ℕ). scans k.0.0 a) (byte k.0.1) c k.2 in
      let x = numbered_is t k.0 k.1 in
      subst (λ d. Writes d (codes "scan," ++ t)) j.2 (x.0, k.0.1, ap (λ w. codes "scan," ++ w) x.1, x.2, j.1)

  finding_is : finding t ≡ Some c → Writes c (codes "find," ++ t)
  finding_is e =
      let k = then_some (λ (a : ℕ × ℕ × ℕ × Text). option_map (λ (m : List ℕ × Base). finds a.0 a.1 a.2 m.0 m.1) (machine a.3)) (chart_and_areas t) c e in
      let j = map_some (λ (m : List ℕ × Base). finds k.0.0 k.0.1 k.0.2 m.0 m.1) (machine k.0.3) c k.2 in
      let p = then_some (λ (p : ℕ × Text). option_and_then (λ (q : ℕ × Text). option_map (λ (r : ℕ × Text). (p.0, q.0, r.0, r.1)) (numbered q.1)) (numbered p.1)) (numbered t) k.0 k.1 in
      let q = then_some (λ (q : ℕ × Text). option_map (λ (r : ℕ × Text). (p.0.0, q.0, r.0, r.1)) (numbered q.1)) (numbered p.0.1) k.0 p.2 in
      let r = map_some (λ (r : ℕ × Text). (p.0.0, q.0.0, r.0, r.1)) (numbered q.0.1) k.0 q.2 in
      let x = numbered_is t p.0 p.1 in
      let y = numbered_is p.0.1 q.0 q.1 in
      let z = numbered_is q.0.1 r.0 r.1 in
      let m = machine_is k.0.3 j.0 j.1 in
      let rest : r.0.1 ≡ m.0 ++ (44 ∷ m.1) = ap (λ (a : ℕ × ℕ × ℕ × Text). a.3) r.2 ∙ m.2 in
      let whole : t ≡ x.0 ++ (44 ∷ (y.0 ++ (44 ∷ (z.0 ++ (44 ∷ (m.0 ++ (44 ∷ m.1))))))) =
      x.1 ∙ ap (λ w. x.0 ++ (44 ∷ w)) (y.1 ∙ ap (λ w. y.0 ++ (44 ∷ w)) (z.1 ∙ ap (λ w. z.0 ++ (44 ∷ w)) rest)) in
      subst (λ d. Writes d (codes "find," ++ t)) j.2 (
        x.0,
        y.0,
        z.0,
        m.0,
        m.1,
        ap (λ w. codes "find," ++ w) whole,
        x.2 ∙ ap (λ (a : ℕ × ℕ × ℕ × Text). Some a.0) r.2,
        y.2 ∙ ap (λ (a : ℕ × ℕ × ℕ × Text). Some a.1) r.2,
        z.2 ∙ ap (λ (a : ℕ × ℕ × ℕ × Text). Some a.2) r.2,
        m.3,
        m.4,
      )

module _ (t : Text) (c : Told) where
  behind : (p rest : Text) → after p t ≡ Some rest → Writes c (p ++ rest) → Writes c t
  behind p rest i h = subst (Writes c) (sym (after_is p t rest i)) h

  of_chart : (f b s : Option Text) → after (codes "fill,") t ≡ f → after (codes "begin,") t ≡ b → after (codes "scan,") t ≡ s
      → by_word f filling (by_word b beginning (by_word s scanning None)) ≡ Some c → Writes c t
  of_chart (Some x) b s i j k e = behind (codes "fill,") x i (filling_is x c e)
  of_chart None (Some x) s i j k e = behind (codes "begin,") x j (beginning_is x c e)
  of_chart None None (Some x) i j k e = behind (codes "scan,") x k (scanning_is x c e)
  of_chart None None None i j k e = absurd (no_some c e)

  of_line : (o n l f : Option Text) → after (codes "open,") t ≡ o → after (codes "enter,") t ≡ n → after (codes "load,") t ≡ l → after (codes "find,") t ≡ f
      → by_word o opening (by_word n entering (by_word l loading (by_word f finding (chart_call t)))) ≡ Some c → Writes c t
  of_line (Some x) n l f i j k m e = behind (codes "open,") x i (opening_is x c e)
  of_line None (Some x) l f i j k m e = behind (codes "enter,") x j (entering_is x c e)
  of_line None None (Some x) f i j k m e = behind (codes "load,") x k (loading_is x c e)
  of_line None None None (Some x) i j k m e = behind (codes "find,") x m (finding_is x c e)
  of_line None None None None i j k m e = of_chart (after (codes "fill,") t) (after (codes "begin,") t) (after (codes "scan,") t) refl refl refl e

-- ---- what is written is the call

written : (c : Told) (t : Text) → Writes c t → call t ≡ Some c
written (opens s names) t h = ap call h.1 ∙ ap (option_map (λ (p : ℕ × Text). opens p.0 p.1)) (numbered_of h.0 names s h.2)
written (enters s rule) t h = ap call h.1 ∙ ap (option_map (λ (p : ℕ × Text). enters p.0 p.1)) (numbered_of h.0 rule s h.2)
written (loads s y file) t h =
    ap call h.3
    ∙ ap (option_and_then (λ (p : ℕ × Text). option_map (λ (q : ℕ × Text). loads p.0 q.0 (unfolded q.1)) (numbered p.1))) (numbered_of h.0 (h.1 ++ (44 ∷ h.2)) s h.4)
    ∙ ap (option_map (λ (q : ℕ × Text). loads s q.0 (unfolded q.1))) (numbered_of h.1 h.2 y h.5) ∙ ap (λ f. Some (loads s y f)) h.6
written (fills c s k) t h =
    ap call h.3
    ∙ ap (option_and_then (λ (p : ℕ × Text). option_and_then (λ (q : ℕ × Text). option_map (λ (i : ℕ). fills p.0 q.0 i) (small q.1)) (numbered p.1))) (numbered_of h.0 (h.1 ++ (44 ∷ h.2)) c h.4)
    ∙ ap (option_and_then (λ (q : ℕ × Text). option_map (λ (i : ℕ). fills c q.0 i) (small q.1))) (numbered_of h.1 h.2 s h.5) ∙ ap (option_map (λ (i : ℕ). fills c s i)) h.6
written (begins c) t h = ap call h.1 ∙ ap (option_map begins) h.2
written (scans c a) t h =
    ap call h.2 ∙ ap (option_and_then (λ (p : ℕ × Text). option_map (λ (b : ℕ). scans p.0 b) (byte p.1))) (numbered_of h.0 h.1 c h.3) ∙ ap (option_map (λ (b : ℕ). scans c b)) h.4
written (finds c pairs walk stuck base) t h =
    let x = h.0 in
    let y = h.1 in
    let z = h.2 in
    let m = h.3 ++ (44 ∷ h.4) in
    ap call h.5
    ∙ ap (option_and_then (λ (a : ℕ × ℕ × ℕ × Text). option_map (λ (n : List ℕ × Base). finds a.0 a.1 a.2 n.0 n.1) (machine a.3)))
    (ap (option_and_then (λ (p : ℕ × Text). option_and_then (λ (q : ℕ × Text). option_map (λ (r : ℕ × Text). (p.0, q.0, r.0, r.1)) (numbered q.1)) (numbered p.1))) (numbered_of x (y ++ (44 ∷ (z ++ (44 ∷ m)))) c h.6)
    ∙ ap (option_and_then (λ (q : ℕ × Text). option_map (λ (r : ℕ × Text). (c, q.0, r.0, r.1)) (numbered q.1))) (numbered_of y (z ++ (44 ∷ m)) pairs h.7)
    ∙ ap (option_map (λ (r : ℕ × Text). (c, pairs, r.0, r.1))) (numbered_of z m walk h.8))
    ∙ ap (option_map (λ (n : List ℕ × Base). finds c pairs walk n.0 n.1)) (machine_of (stuck, base) h.3 h.4 h.9 h.10)

pub lines_tell_the_calls_that_they_write : LinesTellTheCallsThatTheyWrite
lines_tell_the_calls_that_they_write t c =
    (of_line t c (after (codes "open,") t) (after (codes "enter,") t) (after (codes "load,") t) (after (codes "find,") t) refl refl refl refl, written c t)
