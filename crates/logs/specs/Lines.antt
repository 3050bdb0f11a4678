-- How each call is written as a line of a log. Assumes nothing.
use Rattle.std.specs.Prelude.{◌≡◌, ◌↔◌, ◌∷◌, ◌++◌, Some, codes}
use Rattle.meaning.specs.Bytes.{Text}
use Rattle.logs.specs.Told.{Base, on_table, on_round, on_another, Told, opens, enters, loads, fills, begins, scans, finds, small, byte, bytes, unfolded, call}

-- the text writes what a machine stands on; none writes another machine
abbrev pub WritesBase : Base → Text → Type 0
WritesBase (on_table n) t = (x : Text) × (t ≡ codes "table," ++ x) × (small x ≡ Some n)
WritesBase (on_round w) t = (x : Text) × (t ≡ codes "round," ++ x) × (bytes x ≡ Some w)
WritesBase on_another t = ⊥

-- the line t writes the call: its word, and behind commas what it holds; byte 44 is the comma
abbrev pub Writes : Told → Text → Type 0
Writes (opens s names) t = (x : Text) × (t ≡ codes "open," ++ (x ++ (44 ∷ names))) × (small x ≡ Some s)
Writes (enters s rule) t = (x : Text) × (t ≡ codes "enter," ++ (x ++ (44 ∷ rule))) × (small x ≡ Some s)
Writes (loads s y file) t = (x z f : Text) × (t ≡ codes "load," ++ (x ++ (44 ∷ (z ++ (44 ∷ f))))) × (small x ≡ Some s) × (small z ≡ Some y) × (unfolded f ≡ file)
Writes (fills c s k) t = (x y z : Text) × (t ≡ codes "fill," ++ (x ++ (44 ∷ (y ++ (44 ∷ z))))) × (small x ≡ Some c) × (small y ≡ Some s) × (small z ≡ Some k)
Writes (begins c) t = (x : Text) × (t ≡ codes "begin," ++ x) × (small x ≡ Some c)
Writes (scans c a) t = (x y : Text) × (t ≡ codes "scan," ++ (x ++ (44 ∷ y))) × (small x ≡ Some c) × (byte y ≡ Some a)
Writes (finds c pairs walk stuck base) t =
    (x y z ss m : Text) × (t ≡ codes "find," ++ (x ++ (44 ∷ (y ++ (44 ∷ (z ++ (44 ∷ (ss ++ (44 ∷ m))))))))) × (small x ≡ Some c) × (small y ≡ Some pairs) × (small z ≡ Some walk)
    × (bytes ss ≡ Some stuck) × WritesBase base m

-- a line tells a call exactly where it writes it
abbrev pub LinesTellTheCallsThatTheyWrite : Type 0
LinesTellTheCallsThatTheyWrite = (t : Text) (c : Told) → (call t ≡ Some c) ↔ Writes c t
