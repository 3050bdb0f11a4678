use Rattle.std.proofs.Common.{◌≡◌, ◌∙◌, ℕ, ◌<◌, ◌≤◌, nat_le, List, [], ◌∷◌, length, get_or, Ok, Err, Result, IfOk, refl, sym, ap, subst, arith}
use Rattle.std.proofs.lemmas.Bool.{cond-true, le-leb}
use Rattle.std.specs.declared.alloc.AllocError.{AllocError}
use Rattle.meaning.specs.Machines.{Meaning}
use Rattle.meaning.specs.Kinds.{stuck_meaning}
use Rattle.meaning.specs.Calls.{Machine, History, stuck}
use Rattle.meaning.specs.Histories.{meaning_of}
use Rattle.machines.specs.declared.stuck.StuckLayer.{StuckLayer}
use Rattle.charts.specs.declared.chart.Chart.{Chart}
use Rattle.replay.specs.declared.answer.Answer.{Answer}
use Rattle.replay.specs.declared.answer.Answer.TheVariants.{ManyLayers}
use Rattle.replay.specs.Meant.{layered, searching_with}
use Rattle.replay.specs.Replayed.{RightAnswer}
use Rattle.replay.specs.Looks.{Looks, LooksUnder}
use Rattle.replay.proofs.OneCall.{if_ok_then}
use Rattle.replay.proofs.look.Look.under.Goals as goal

-- what layers for these signals mean over m
abbrev piled : Meaning → List ℕ → Meaning
piled m [] = m
piled m (s ∷ ss) = piled (stuck_meaning m s) ss

layered_is : (h : History) (k : Machine) (ss : List ℕ) (m : Meaning) → meaning_of h k ≡ m → meaning_of h (layered k ss) ≡ piled m ss
layered_is h k [] m e = e
layered_is h k (s ∷ ss) m e = layered_is h (stuck k s) ss (stuck_meaning m s) (ap (λ x. stuck_meaning x s) e)

under_layers : (c : Chart) (m m' : Meaning) (ss ts : List ℕ) (pairs walk : ℕ) (r : Result Answer AllocError) → ss ≡ ts → length ss ≤ 3 → m' ≡ piled m ts
    → IfOk r (Looks c m' pairs walk) → IfOk r (LooksUnder c m ss pairs walk)
under_layers c m m' ss ts pairs walk r i l e ok =
    if_ok_then r (λ a looks. λ h n k led is. subst (λ o. RightAnswer h (searching_with n pairs walk o) a)
    (sym (cond-true (nat_le (length ss) 3) (Ok (layered k ss)) (Err ManyLayers) (le-leb (length ss) 3 l)))
    (looks h n (layered k ss) led (layered_is h k ss m is ∙ (ap (piled m) i ∙ sym e)))) ok

-- a layer means what its parts say
layer_is : {X : Type 0} (mean : X → Meaning) (l : StuckLayer X) (x : X) (s : ℕ) (m : Meaning) → l.below ≡ x → l.signal ≡ s → mean x ≡ m → stuck_meaning (mean l.below) l.signal ≡ stuck_meaning m s
layer_is mean l x s m i j e = ap (λ y. stuck_meaning (mean y) l.signal) i ∙ (ap (λ y. stuck_meaning y l.signal) e ∙ ap (λ t. stuck_meaning m t) j)

-- a list by its items
no_items : (ss : List ℕ) → length ss < 1 → ss ≡ []
no_items [] b = refl
no_items (s ∷ ss) b = absurd (omega arith)

one_item : (ss : List ℕ) → 1 ≤ length ss → length ss < 2 → ss ≡ get_or ss 0 0 ∷ []
one_item [] l b = absurd (omega arith)
one_item (s ∷ ss) l b = ap (λ r. s ∷ r) (no_items ss (omega arith))

two_items : (ss : List ℕ) → 2 ≤ length ss → length ss < 3 → ss ≡ get_or ss 0 0 ∷ (get_or ss 1 0 ∷ [])
two_items [] l b = absurd (omega arith)
two_items (s ∷ ss) l b = ap (λ r. s ∷ r) (one_item ss (omega arith) (omega arith))

three_items : (ss : List ℕ) → 3 ≤ length ss → length ss < 4 → ss ≡ get_or ss 0 0 ∷ (get_or ss 1 0 ∷ (get_or ss 2 0 ∷ []))
three_items [] l b = absurd (omega arith)
three_items (s ∷ ss) l b = ap (λ r. s ∷ r) (two_items ss (omega arith) (omega arith))

pub returns-in-empty : goal.returns-in-empty
returns-in-empty g c =
    let s = c.args.self.now in
    let m = g.M.Machine.meaning c.args.machine.now in
    under_layers s.chart.now m m c.args.stuck.now [] s.pairs s.walk c.over.result (no_items c.args.stuck.now c.in-empty.len_below) (omega arith) refl c.over.ensures

pub returns-in-len1 : goal.returns-in-len1
returns-in-len1 g c =
    let s = c.args.self.now in
    let ss = c.args.stuck.now in
    let one = layer_is (λ r. g.M.Machine.meaning r.now) c.new.result c.args.machine (get_or ss 0 0) (g.M.Machine.meaning c.args.machine.now) c.new.ensures.below c.new.ensures.signal refl in
    under_layers s.chart.now (g.M.Machine.meaning c.args.machine.now) _ ss _ s.pairs s.walk c.over-in-len1.result (one_item ss c.in-len1.len_at_least c.in-len1.len_below) (omega arith) one c.over-in-len1.ensures

pub returns-in-len2 : goal.returns-in-len2
returns-in-len2 g c =
    let s = c.args.self.now in
    let ss = c.args.stuck.now in
    let a = c.new-in-len2 in
    let b = c.new-in-len2-2 in
    let one = layer_is (λ r. g.M.Machine.meaning r.now) a.result c.args.machine (get_or ss 0 0) (g.M.Machine.meaning c.args.machine.now) a.ensures.below a.ensures.signal refl in
    let two = layer_is (λ l. stuck_meaning (g.M.Machine.meaning l.below.now) l.signal) b.result a.result (get_or ss 1 0) _ b.ensures.below b.ensures.signal one in
    under_layers s.chart.now (g.M.Machine.meaning c.args.machine.now) _ ss _ s.pairs s.walk c.over-in-len2.result (two_items ss c.in-len2.len_at_least c.in-len2.len_below) (omega arith) two c.over-in-len2.ensures

pub returns-in-len3 : goal.returns-in-len3
returns-in-len3 g c =
    let s = c.args.self.now in
    let ss = c.args.stuck.now in
    let a = c.new-in-len3 in
    let b = c.new-in-len3-2 in
    let d = c.new-in-len3-3 in
    let one = layer_is (λ r. g.M.Machine.meaning r.now) a.result c.args.machine (get_or ss 0 0) (g.M.Machine.meaning c.args.machine.now) a.ensures.below a.ensures.signal refl in
    let two = layer_is (λ l. stuck_meaning (g.M.Machine.meaning l.below.now) l.signal) b.result a.result (get_or ss 1 0) _ b.ensures.below b.ensures.signal one in
    let three = layer_is (λ l. stuck_meaning (stuck_meaning (g.M.Machine.meaning l.below.below.now) l.below.signal) l.signal) d.result b.result (get_or ss 2 0) _ d.ensures.below d.ensures.signal two in
    under_layers s.chart.now (g.M.Machine.meaning c.args.machine.now) _ ss _ s.pairs s.walk c.over-in-len3.result (three_items ss c.in-len3.len_at_least c.in-len3.len_below) (omega arith) three c.over-in-len3.ensures
