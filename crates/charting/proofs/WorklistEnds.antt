-- Different words are as many as the items that they lead to. Assumes nothing.
use Rattle.std.proofs.Common.{◌≡◌, ℕ, ◌+◌, ◌*◌, ◌/◌, ◌%◌, ◌<◌, ◌≤◌, ◌⊎◌, List, [], get_or, refl, subst, inl, inr, ⊎_elim, arith}
use Rattle.std.proofs.lemmas.Bool.{cases_lt}
use Rattle.logic.specs.Formula.{Letters}
use Rattle.logic.specs.Counting.{Classes, More}
use Rattle.once.specs.Once.{Apart}
use Rattle.charting.specs.Worklists.{Reaches, LetterRows, Overflows}

-- each entry of the rows is one of the n
pub rows_below : {X : Type 0} {d : X} {In : List ℕ → X → Type 0} {more : ℕ → List ℕ → List ℕ} {xs : List X} {n m : ℕ} {nx : List ℕ} → LetterRows d In more xs n nx m
    → (k : ℕ) → k < m * 256 → get_or nx k 0 < n
rows_below {n} {nx} r k h =
    let e : k / 256 * 256 + k % 256 ≡ k = omega arith in
    subst (λ (z : ℕ). get_or nx z 0 < n) e ((r.at (k / 256) (omega arith)).below (k % 256) (omega arith))

-- words by number, where there are some below n
abbrev Known : (List ℕ → ℕ → Type 0) → ℕ → Type 0
Known P n = (k : ℕ) → k < n → (w : List ℕ) × Letters w × P w k

module _ (P : List ℕ → ℕ → Type 0) (n : ℕ) (at : Known P n) where
  pick : (k : ℕ) → (k < n) ⊎ (n ≤ k) → List ℕ
  pick k (inl l) = (at k l).0
  pick k (inr l) = []

  word_at : ℕ → List ℕ
  word_at k = pick k (cases_lt k n)

  picked : (k : ℕ) (d : (k < n) ⊎ (n ≤ k)) → k < n → Letters (pick k d) × P (pick k d) k
  unfolding pick
  picked k (inl l) h = ((at k l).1, (at k l).2)
  picked k (inr l) h = absurd (omega arith)

  word_is : (k : ℕ) → k < n → Letters (word_at k) × P (word_at k) k
  unfolding word_at
  word_is k h = picked k (cases_lt k n) h

-- words that are the same lead to items that are
module _ {X : Type 0} (alike : X → X → Type 0) (d : X) (In : List ℕ → X → Type 0) (Same : List ℕ → List ℕ → Type 0)
    (same_alike : (u v : List ℕ) (x y : X) → Letters u → Letters v → In u x → In v y → Same u v → alike x y) where
  -- and words that lead to one item are the same
  pub counted : ((u v : List ℕ) (x : X) → Letters u → Letters v → In u x → In v x → Same u v) → (xs : List X) (n : ℕ) → Apart alike xs n → Reaches d In xs n
      → ((u : List ℕ) → Letters u → (k : ℕ) × (k < n) × In u (get_or xs k d)) → Classes Letters Same n
  counted one_same xs n apart walks all =
      let P : List ℕ → ℕ → Type 0 = λ u k. In u (get_or xs k d) in
      let is = word_is P n walks.at in
      record {
        one = word_at P n walks.at;
        inside = λ i l. (is i l).0;
        covers = λ u l. let k = all u l in let w = is k.0 k.1 in (k.0, k.1, one_same u (word_at P n walks.at k.0) (get_or xs k.0 d) l w.0 k.2 w.1);
        differ = λ i j less l e.
            let x = is i (omega arith) in let y = is j l in apart.differ i j d less l (same_alike _ _ _ _ x.0 y.0 x.1 y.1 e);
      }

  -- one more than there is room for
  pub too_many : (room : ℕ) → Overflows alike d In room → More room Letters Same
  too_many room ov =
      let P : List ℕ → ℕ → Type 0 = λ u k. (x : X) × In u x × (k < room → x ≡ get_or ov.sets k d) × (k ≡ room → x ≡ ov.more.set) in
      let at : Known P (room + 1) = λ k l.
      ⊎_elim (λ h. let t = ov.walks.at k h in (t.0, t.1, (get_or ov.sets k d, t.2, (λ q. refl), (λ q. absurd (omega arith)))))
      (λ h. (ov.more.word, ov.more.letters, (ov.more.set, ov.more.reached, (λ q. absurd (omega arith)), (λ q. refl)))) (cases_lt k room) in
      let is = word_is P (room + 1) at in
      record {
        pick = word_at P (room + 1) at;
        inside = λ i l. (is i (omega arith)).0;
        differ = λ i j less l e.
            let x = is i (omega arith) in
            let y = is j (omega arith) in
            let same : alike (get_or ov.sets i d) y.1.0 = subst (λ z. alike z y.1.0) (x.1.2 (omega arith)) (same_alike _ _ _ _ x.0 y.0 x.1.1 y.1.1 e) in
            ⊎_elim (λ h. ov.apart.differ i j d less h (subst (alike (get_or ov.sets i d)) (y.1.2 h) same))
            (λ h. ov.more.new i (omega arith) (subst (alike (get_or ov.sets i d)) (y.1.3 (omega arith)) same)) (cases_lt j room);
      }
