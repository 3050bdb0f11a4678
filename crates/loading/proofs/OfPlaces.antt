-- Numbers cut at 65,536 say the same in their place.
use Rattle.std.proofs.Common.{◌≡◌, ℕ, ◌≤◌, Bool, true, false, cond, ◌&&◌, eqb, ltb, leb, length, Some, None, Option, sym, refl, ap, ◌∙◌, arith}
use Rattle.std.proofs.lemmas.Bool.Decides.{nat_tests}
use Rattle.meaning.specs.Bytes.{Text, is_empty}
use Rattle.meaning.specs.Files.{Content, Entry, signals, rule, state, step, entry, mapped, placed, last_from, added}
use Rattle.lines.specs.Fields.{cap, capped}

state_capped : (o e : Bool) (n s a m : ℕ) → m ≤ 4096
    → ◌≡◌ {A = Option Entry} (cond (o && (e && (eqb (cap n) m && (leb (cap s) 1 && leb (cap a) 255)))) (Some (state (cap n) (cap s) (cap a))) None) (cond (o && (e && (eqb n m && (leb s 1 && leb a 255)))) (Some (state n s a)) None)
state_capped o e n s a m h = grind (arith, nat_tests)

step_capped : (o : Bool) (l f t m : ℕ) → m ≤ 4096
    → ◌≡◌ {A = Option Entry} (cond (o && (leb l (cap f) && (ltb (cap f) m && ltb (cap t) m))) (Some (step (cap f) (cap t))) None) (cond (o && (leb l f && (ltb f m && ltb t m))) (Some (step f t)) None)
step_capped o l f t m h = grind (arith, nat_tests)

placed_capped : (c : Content) (e : Option Entry) → length c.states ≤ 4096 → placed c (mapped capped e) ≡ placed c e
placed_capped c None h = refl
placed_capped c (Some (signals t)) h = refl
placed_capped c (Some (rule t)) h = refl
placed_capped c (Some (state n s a)) h = state_capped c.opened (is_empty c.steps) n s a (length c.states) h
placed_capped c (Some (step f t)) h = step_capped c.opened (last_from c.steps) f t (length c.states) h

-- the line has its place as what the code reads in it
pub placed_is : (c : Content) (t : Text) (o : Option Entry) → length c.states ≤ 4096 → o ≡ mapped capped (entry t) → placed c (entry t) ≡ placed c o
placed_is c t o h i = sym (ap (placed c) i ∙ placed_capped c (entry t) h)

-- the first line that is good opens
opened_by : (o x : Bool) (e : Entry) → ◌≡◌ {A = Option Entry} (cond (o && x) (Some e) None) (Some e) → true ≡ o
opened_by true x e h = refl
opened_by false x e h = cc

pub opened_after : (c : Content) (e : Entry) → placed c (Some e) ≡ Some e → true ≡ (added c e).opened
opened_after c (signals t) h = refl
opened_after c (rule t) h = opened_by c.opened _ _ h
opened_after c (state n s a) h = opened_by c.opened _ _ h
opened_after c (step f t) h = opened_by c.opened _ _ h
