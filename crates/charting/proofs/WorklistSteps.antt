-- The list and the next numbers, a letter at a time. Assumes nothing.
use Rattle.std.proofs.Common.{◌≡◌, ℕ, ◌+◌, ◌*◌, ◌<◌, ◌≤◌, ◌≢◌, List, [], length, get_or, set, Some, None, sym, ap, ◌∙◌, subst, arith, get_or-set_other, get_or-set_same, below_more}
use denote.Ref.{MutBor}
use Rattle.logic.specs.Formula.{Letters}
use Rattle.once.specs.Once.{Grows, GoesOn, At, Adds, Apart}
use Rattle.charting.specs.Worklists.{Reaches, LetterRow, LetterRows, Crowds, Complete, Overflows}
use Rattle.charting.proofs.Growth.{goes_on_trans, adds_each, first_kept, none_apart}

module _ {X : Type 0} (alike : X → X → Type 0) (d : X) (In : List ℕ → X → Type 0) (more : ℕ → List ℕ → List ℕ) where
  pub reaches_more : (xs : List X) (n : ℕ) (x : X) (k : ℕ) (ys : List X) (m : ℕ) → Adds alike xs n x (Some k) ys m
      → (u : List ℕ) → Letters u → In u x → Reaches d In xs n → Reaches d In ys m
  reaches_more xs n x k ys m ad u l e ws =
      record { at = adds_each alike xs n x k ys m d (λ y. (v : List ℕ) × Letters v × In v y) ad ws.at (u, l, e) }

  -- an addition that found no place
  pub reaches_still : (xs : List X) (n : ℕ) (x : X) (ys : List X) (m : ℕ) → Adds alike xs n x None ys m → Reaches d In xs n → Reaches d In ys m
  reaches_still xs n x ys m ad ws = rw (ad.2, ad.3) ws

  pub crowded : (xs : List X) (n : ℕ) (x : X) (ys : List X) (m : ℕ) → Adds alike xs n x None ys m → (u : List ℕ) → Letters u → In u x → Crowds alike d In ys m
  crowded xs n x ys m ad u l e =
      rw (ad.2, ad.3) (record { filled = ad.1; word = u; letters = l; set = x; reached = e; new = λ k h. ad.0 k d h })

  -- a row stays as it is while the list grows and the row's own places stay
  row_kept : {xs ys : List X} {n m : ℕ} (na nb : List ℕ) (q b : ℕ) → Grows xs n ys m → q < n
      → ((s : ℕ) → s < b → get_or nb (q * 256 + s) 0 ≡ get_or na (q * 256 + s) 0) → LetterRow d In more xs n na q b → LetterRow d In more ys m nb q b
  row_kept {xs} {ys} {n} {m} na nb q b g h e r = record {
    below = λ s p. omega (arith, r.below s p, g.more, e s p);
    names = λ s p u t.
        let old = r.names s p u (subst (In u) (g.stays q d h) t) in
        subst (In (more s u)) (sym (ap (λ (j : ℕ). get_or ys j d) (e s p) ∙ g.stays (get_or na (q * 256 + s) 0) d (r.below s p))) old;
  }

  -- one letter more
  pub row_more : {xs ys : List X} {n m : ℕ} (na : List ℕ) (q b k : ℕ) (x : X) → Grows xs n ys m → q < n
      → q * 256 + b < length na → At alike ys m x k → ((u : List ℕ) (y z : X) → alike y z → In u z → In u y)
      → ((u : List ℕ) → In u (get_or xs q d) → In (more b u) x)
      → LetterRow d In more xs n na q b → LetterRow d In more ys m (set na (q * 256 + b) k) q (b + 1)
  row_more {xs} {ys} {n} {m} na q b k x g h room at same is r =
      let e = get_or-set_same na (q * 256 + b) k 0 room in
      let kept : LetterRow d In more ys m (set na (q * 256 + b) k) q b =
      row_kept na _ q b g h (λ s p. let ne : q * 256 + s ≢ q * 256 + b = omega arith in get_or-set_other na (q * 256 + b) (q * 256 + s) k 0 ne) r in
      record {
        below = below_more _ _ kept.below (rw e at.0);
        names = below_more _ _ kept.names (λ u t.
            subst (In (more b u)) (sym (ap (λ (j : ℕ). get_or ys j d) e))
            (same (more b u) (get_or ys k d) x (at.1 d) (is u (subst (In u) (g.stays q d h) t))));
      }

  pub rows_more : {xs ys : List X} {n m : ℕ} (na nb : List ℕ) (q : ℕ) → Grows xs n ys m → q < n
      → ((k : ℕ) → k < q * 256 → get_or nb k 0 ≡ get_or na k 0)
      → LetterRow d In more ys m nb q 256 → LetterRows d In more xs n na q → LetterRows d In more ys m nb (q + 1)
  rows_more {xs} {ys} {n} {m} na nb q g h e r rs = record
      { at = below_more _ _ (λ t p. row_kept na nb t 256 g (omega arith) (λ s l. e (t * 256 + s) (omega arith)) (rs.at t p)) r }

pub rows_filled : {X : Type 0} {d : X} {In : List ℕ → X → Type 0} {more : ℕ → List ℕ → List ℕ} {xs : List X} {n m : ℕ} {nx : List ℕ} → LetterRows d In more xs n nx m → m ≡ n → LetterRows d In more xs n nx n
rows_filled r e = record { at = λ q l. r.at q (omega (arith, l, e)) }

-- ---- a row while it is filled

-- the list a with n items and the numbers nx have become b with m items and ny: row q is filled for the letters below s, and the rows before it are as they were
pub record RowSoFar {X : Type 0} (alike : X → X → Type 0) (In : List ℕ → X → Type 0) (more : ℕ → List ℕ → List ℕ)
    (a : MutBor (List X)) (n : ℕ) (nx : List ℕ) (q : ℕ) (b : MutBor (List X)) (m : ℕ) (ny : List ℕ) (s : ℕ) : Type 0 where
  pub goes_on : GoesOn alike a n b m
  pub walks : (d : X) → Reaches d In b.now m
  pub row : (d : X) → LetterRow d In more b.now m ny q s
  pub rest : (k : ℕ) → k < q * 256 → get_or ny k 0 ≡ get_or nx k 0

pub row_filled : {X : Type 0} {alike : X → X → Type 0} {In : List ℕ → X → Type 0} {more : ℕ → List ℕ → List ℕ} {a b : MutBor (List X)} {n q m s : ℕ} {nx ny : List ℕ}
    → RowSoFar alike In more a n nx q b m ny s → s ≡ 256 → (d : X) → LetterRow d In more b.now m ny q 256
row_filled f e d = rw (← e) (f.row d)

module _ {X : Type 0} (alike : X → X → Type 0) (In : List ℕ → X → Type 0) (more : ℕ → List ℕ → List ℕ)
    (same : (u : List ℕ) (x y : X) → alike x y → In u y → In u x) (lettered : (s : ℕ) (u : List ℕ) → s < 256 → Letters u → Letters (more s u))
    (a : MutBor (List X)) (n : ℕ) (nx : List ℕ) (q : ℕ) (known : q < n) (walks : (d : X) → Reaches d In a.now n)
    (from : X) (is : (d : X) → from ≡ get_or a.now q d)
    (b c : MutBor (List X)) (m o : ℕ) (ny : List ℕ) (s : ℕ) (small : s < 256) (x : X) (after : (u : List ℕ) → In u from → In (more s u) x)
    (old : RowSoFar alike In more a n nx q b m ny s) (on : GoesOn alike b m c o) where
  -- the word that leads to the next item
  word : (d : X) → (u : List ℕ) × Letters u × In u x
  word d = let w = (walks d).at q known in (more s w.0, lettered s w.0 small w.1, after w.0 (subst (In w.0) (sym (is d)) w.2))

  -- its number is written
  pub goes_on_filling : (k : ℕ) → q * 256 + s < length ny → Adds alike b.now m x (Some k) c.now o → At alike c.now o x k
      → RowSoFar alike In more a n nx q c o (set ny (q * 256 + s) k) (s + 1)
  unfolding word
  goes_on_filling k room adds at = record {
    goes_on = goes_on_trans old.goes_on on;
    walks = λ d. let w = word d in reaches_more alike d In more _ _ _ _ _ _ adds w.0 w.1 w.2 (old.walks d);
    row = λ d. row_more alike d In more ny q s k x on.grows (omega (arith, old.goes_on.grows.more, known)) room at same
        (λ u t. after u (subst (In u) (old.goes_on.grows.stays q d known ∙ sym (is d)) t)) (old.row d);
    rest = λ j h. let ne : j ≢ q * 256 + s = omega arith in get_or-set_other ny (q * 256 + s) j k 0 ne ∙ old.rest j h;
  }

  -- it finds no place
  pub ends_filling : Adds alike b.now m x None c.now o → GoesOn alike a n c o × ((d : X) → Reaches d In c.now o) × ((d : X) → Crowds alike d In c.now o)
  ends_filling adds = (
    goes_on_trans old.goes_on on,
    (λ d. reaches_still alike d In more _ _ _ _ _ adds (old.walks d)),
    (λ d. let w = word d in crowded alike d In more _ _ _ _ _ adds w.0 w.1 w.2),
  )

-- ---- the whole list, begun with the item x of the empty word

module _ {X : Type 0} (alike : X → X → Type 0) (In : List ℕ → X → Type 0) (more : ℕ → List ℕ → List ℕ)
    (a b : MutBor (List X)) (n m : ℕ) (blank : n ≡ 0) (x : X) (start : In [] x) where
  module _ (k : ℕ) (adds : Adds alike a.now n x (Some k) b.now m) (on : GoesOn alike a n b m) where
    module _ (c : MutBor (List X)) (o : ℕ) (then : GoesOn alike b m c o) (d : X) (walks : Reaches d In c.now o) where
      apart : Apart alike c.now o
      apart = then.apart (on.apart (none_apart alike a.now n blank))

      pub overflows : Crowds alike d In c.now o → Overflows alike d In (length a.now)
      overflows full = subst (Overflows alike d In) (full.filled ∙ then.size ∙ on.size) (record { sets = c.now; apart = apart; walks = walks; more = full })

      pub complete : (nx : List ℕ) → o ≤ length c.now → LetterRows d In more c.now o nx o → Complete alike d In more c.now o nx
      complete nx fits rows =
          let one = first_kept alike a.now n x k b.now m d blank adds in
          let some : 0 < m = omega (arith, one.0) in
          record {
            fits = fits;
            some = omega (arith, some, then.grows.more);
            apart = apart;
            walks = walks;
            empty = subst (In []) (sym (then.grows.stays 0 d some ∙ one.1)) start;
            rows = rows;
          }
