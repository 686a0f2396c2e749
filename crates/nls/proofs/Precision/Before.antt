-- The question that a scan asks: its place and plane, the marks where its answer makes a coefficient known, and that those were not known
-- down to the plane in progress before it.
use mathlib.Core.Path.{◌≡◌, refl, sym, ap, subst, ◌∙◌}
use mathlib.Core.Bool.{Bool, true, false, cond, not}
use mathlib.Core.Logic.{◌⊎◌, inl, inr}
use mathlib.Core.Option.{Option, none, some}
use mathlib.Core.List.{List, [], ◌∷◌, ◌++◌}
use Prim.Native.Nat.{ℕ, zero, suc, ◌+◌, ◌*◌, ◌-◌, ◌/◌, ◌≤◌, ◌<◌}
use native.Mathlib.Omega.{arith}
use lib.Dec.{ltb, eqb}
use lib.IntN.{ℤ}
use lib.ListN.{get_or}
use borrow.Author.Tests.{ltb-true, eqb-true, le-ltb}
use Rattle.sizes.specs.Sizes.{all_of, coarsest_of, Sized}
use Rattle.sizes.proofs.Laws.{both_left}
use Rattle.tree.specs.Tree.{desc, grand, any_in}
use Rattle.nls.specs.Scan.{State, Look, over, silent, asks, Question, bit_of, sign_of, in_desc, in_grand, Pass, pixels, sets, refining, look_at, look_pixels, look_sets, look_refining, ask, asked}
use Rattle.nls.specs.Stream.{begin, after}
use Rattle.nls.specs.Reading.{known, last_plane, precision_at, completes}
use Rattle.nls.specs.Judging.{Begins}
use Rattle.nls.specs.Turns.{standing, holder, turn}
use Rattle.nls.proofs.Tiled.{Tiled, tiled}
use Rattle.nls.proofs.Arrays.{bits_of_arr}
use Rattle.nls.proofs.Lists.{arr_of}
use Rattle.nls.proofs.Streams.{begins_iff, begins_less}
use Rattle.nls.proofs.Machine.Table.{Cfg}
use Rattle.nls.proofs.Machine.Split.{kind_no}
use Rattle.nls.proofs.Machine.Cover.{Core, is_desc_at, is_grand_at, Desc_at, Grand_at}
use Rattle.nls.proofs.Machine.Steps.{Fam, Good_at}
use Rattle.nls.proofs.Machine.Start as first
use Rattle.nls.proofs.Reading.Know.{least}
use Rattle.nls.proofs.Judging.Clash.{dead_d, dead_g}
use Rattle.nls.proofs.Precision.PlaneEnds.{notes, noted_all}
use Rattle.nls.proofs.Precision.Holders.{held_d, held_g}
use Rattle.nls.proofs.Precision.Seen.{of_desc, of_grand}
use Rattle.nls.proofs.Precision.Turns.{turn_new, turn_old, turn_set, precision_of_lem}

-- a mark that no found coefficient has
abbrev pub Unfound : ℕ → Type 0
Unfound v = 2 ≤ v → v ≤ 3 → ⊥

-- the mark that an answer meets at a place that it makes known
abbrev pub Met : Question → Pass → ℕ → Type 0
Met (bit_of t c) refining v = v ≡ 3
Met (bit_of t c) pixels v = Unfound v
Met (bit_of t c) sets v = Unfound v
Met (sign_of t) p v = Unfound v
Met (in_desc g c) p v = Unfound v
Met (in_grand g c) p v = Unfound v

-- a question that is asked at place i in plane b
abbrev pub AskedAt : ℕ → ℕ → ℕ → Question → Type 0
AskedAt I b i (bit_of t c) = (t ≡ i) × (c ≡ b) × (t < I)
AskedAt I b i (sign_of t) = (t ≡ i) × (t < I)
AskedAt I b i (in_desc g c) = (g ≡ i / 4) × (c ≡ b)
AskedAt I b i (in_grand g c) = (g ≡ i / 16) × (c ≡ b)

-- and what its answer a makes known: each such place has its turn no sooner than where the scan stands
pub record Asked (N L b : ℕ) (p : Pass) (i : ℕ) (m : List ℕ) (a : Bool) (q : Question) : Type 0 where
  pub own : AskedAt (all_of N) b i q
  pub later : (j : ℕ) → j < all_of N → completes N L p q a j ≡ true → standing (all_of N) p i ≤ turn (all_of N) m j
  pub met : (j : ℕ) → j < all_of N → completes N L p q a j ≡ true → Met q p (get_or m j 0)

covered : (v : ℕ) → (v ≡ 0) ⊎ (5 ≤ v) → Unfound v
covered v (inl e) lo up = omega arith
covered v (inr h) lo up = omega arith

module _ (N L : ℕ) (size : Sized N L) (P : ℕ) where
  abbrev I : ℕ
  I = all_of N

  abbrev D : ℕ
  D = coarsest_of N L

  abbrev sz : Tiled D I
  sz = tiled N L size

  -- members of a DESC or a GRAND that stands at i
  module _ (c : Cfg) (m : List ℕ) (k : Core sz c m) (i : ℕ) (hi : i < I) (j : ℕ) (hj : j < I) where
    desc_member : get_or m i 0 ≡ 5 → any_in (λ x. eqb x j) (desc N L (i / 4)) ≡ true → ((get_or m j 0 ≡ 0) ⊎ (5 ≤ get_or m j 0)) × (holder I m j ≡ i)
    desc_member e z =
        let w : Desc_at D I c i = is_desc_at sz c m k i hi e in
        let whole : 4 * (i / 4) ≡ i = omega (arith, w.0) in
        let lo : D ≤ 4 * (i / 4) = omega (arith, w.3) in (
          kind_no sz c k.ok (λ x. get_or m x 0) k.tab j hj (dead_d sz c k.ok (i / 4) j lo w.2 (of_desc N L size P (i / 4) j z)),
          held_d sz c m k (i / 4) j lo w.1 w.2 hj (of_desc N L size P (i / 4) j z) ∙ whole,
        )

    grand_member : get_or m i 0 ≡ 6 → any_in (λ x. eqb x j) (grand N L (i / 16)) ≡ true → ((get_or m j 0 ≡ 0) ⊎ (5 ≤ get_or m j 0)) × (holder I m j ≡ i)
    grand_member e z =
        let w : Grand_at D I c i = is_grand_at sz c m k i hi e in (
          kind_no sz c k.ok (λ x. get_or m x 0) k.tab j hj (dead_g sz c k.ok (i / 16) j w.3 w.2 (of_grand N L size P (i / 16) j z)),
          held_g sz c m k (i / 16) j w.3 w.1 w.2 hj (of_grand N L size P (i / 16) j z) ∙ sym w.0,
        )

  module _ (F : Fam) (b i : ℕ) (m : List ℕ) (a : Bool) where
    abbrev Held : Pass → Bool → Type 0
    Held p w = Good_at sz P F (suc b) p i w m

    abbrev Asks : Pass → Look → Type 0
    Asks p over = Unit {0}
    Asks p (silent r) = Unit {0}
    Asks p (asks q) = Asked N L b p i m a q

    there : (j v : ℕ) → eqb i j ≡ true → get_or m i 0 ≡ v → (i ≡ j) × (get_or m j 0 ≡ v)
    there j v z e = let q : i ≡ j = eqb-true i j z in (q, ap (λ (x : ℕ). get_or m x 0) (sym q) ∙ e)

    -- one coefficient: MIP in the pixel pass, MCP in the set pass, MSP in the refinement pass
    new : (j : ℕ) → eqb i j ≡ true → get_or m i 0 ≡ 1 → (i ≤ turn I m j) × Unfound (get_or m j 0)
    new j z e = let r = there j 1 z e in (omega (arith, r.0, turn_new I m j (omega (arith, r.1)) (omega (arith, r.1))), λ lo up. omega (arith, r.1))

    child : (j : ℕ) → i < I → eqb i j ≡ true → get_or m i 0 ≡ 4 → (I + i ≤ turn I m j) × Unfound (get_or m j 0)
    child j hi z e = let r = there j 4 z e in (omega (arith, hi, r.0, turn_old I m j (omega (arith, r.1)) (omega (arith, r.1))), λ lo up. omega (arith, r.1))

    old : (j : ℕ) → eqb i j ≡ true → get_or m i 0 ≡ 3 → (2 * I + i ≤ turn I m j) × (get_or m j 0 ≡ 3)
    old j z e = let r = there j 3 z e in (omega (arith, r.0, turn_old I m j (omega (arith, r.1)) (omega (arith, r.1))), r.1)

    inside : (j : ℕ) → ((get_or m j 0 ≡ 0) ⊎ (5 ≤ get_or m j 0)) × (holder I m j ≡ i) → (I + i ≤ turn I m j) × Unfound (get_or m j 0)
    inside j r = (omega (arith, r.1, turn_set I m j r.0), covered (get_or m j 0) r.0)

    asks_pixels : (x y : Bool) → ltb i I ≡ x → eqb (get_or m i 0) 1 ≡ y → Asks pixels (look_pixels b i m x y)
    asks_pixels false y ex ey = tt
    asks_pixels true true ex ey = record {
      own = (refl, refl, ltb-true i I ex);
      later = λ j hj z. (new j (both_left (eqb i j) (not a) z) (eqb-true (get_or m i 0) 1 ey)).0;
      met = λ j hj z. (new j (both_left (eqb i j) (not a) z) (eqb-true (get_or m i 0) 1 ey)).1;
    }
    asks_pixels true false ex ey = tt

    asks_sets : (x d g c : Bool) → ltb i I ≡ x → eqb (get_or m i 0) 5 ≡ d → eqb (get_or m i 0) 6 ≡ g → eqb (get_or m i 0) 4 ≡ c → Held sets false → Asks sets (look_sets b i m x d g c)
    asks_sets false d g c ex ed eg ec h = tt
    asks_sets true true g c ex ed eg ec h = record { own = (refl, refl); later = λ j hj z. (on j hj z).0; met = λ j hj z. (on j hj z).1 }
      where
        on : (j : ℕ) → j < I → completes N L sets (in_desc (i / 4) b) a j ≡ true → (I + i ≤ turn I m j) × Unfound (get_or m j 0)
        on j hj z =
            inside j (desc_member h.1.0 m h.1.1.core i (ltb-true i I ex) j hj (eqb-true (get_or m i 0) 5 ed) (both_left (any_in (λ x. eqb x j) (desc N L (i / 4))) (not a) z))
    asks_sets true false true c ex ed eg ec h = record { own = (refl, refl); later = λ j hj z. (on j hj z).0; met = λ j hj z. (on j hj z).1 }
      where
        on : (j : ℕ) → j < I → completes N L sets (in_grand (i / 16) b) a j ≡ true → (I + i ≤ turn I m j) × Unfound (get_or m j 0)
        on j hj z =
            inside j (grand_member h.1.0 m h.1.1.core i (ltb-true i I ex) j hj (eqb-true (get_or m i 0) 6 eg) (both_left (any_in (λ x. eqb x j) (grand N L (i / 16))) (not a) z))
    asks_sets true false false true ex ed eg ec h = record {
      own = (refl, refl, ltb-true i I ex);
      later = λ j hj z. (child j (ltb-true i I ex) (both_left (eqb i j) (not a) z) (eqb-true (get_or m i 0) 4 ec)).0;
      met = λ j hj z. (child j (ltb-true i I ex) (both_left (eqb i j) (not a) z) (eqb-true (get_or m i 0) 4 ec)).1;
    }
    asks_sets true false false false ex ed eg ec h = tt

    asks_refining : (x s n : Bool) → ltb i I ≡ x → eqb (get_or m i 0) 3 ≡ s → Asks refining (look_refining b i m x s n)
    asks_refining false s n ex es = tt
    asks_refining true true n ex es = record {
      own = (refl, refl, ltb-true i I ex);
      later = λ j hj z. (old j z (eqb-true (get_or m i 0) 3 es)).0;
      met = λ j hj z. (old j z (eqb-true (get_or m i 0) 3 es)).1;
    }
    asks_refining true false true ex es = tt
    asks_refining true false false ex es = tt

    asks_in : (p : Pass) (w : Bool) → Held p w → Asks p (look_at I (suc b) p i w m)
    asks_in pixels true h = record { own = (refl, h.2); later = λ j hj z. (new j z h.3).0; met = λ j hj z. (new j z h.3).1 }
    asks_in sets true h = record { own = (refl, h.2); later = λ j hj z. (child j h.2 z h.3).0; met = λ j hj z. (child j h.2 z h.3).1 }
    asks_in refining true h = absurd h
    asks_in pixels false h = asks_pixels (ltb i I) (eqb (get_or m i 0) 1) refl refl
    asks_in sets false h = asks_sets (ltb i I) (eqb (get_or m i 0) 5) (eqb (get_or m i 0) 6) (eqb (get_or m i 0) 4) refl refl refl refl h
    asks_in refining false h = asks_refining (ltb i I) (eqb (get_or m i 0) 3) (eqb (get_or m i 0) 2) refl refl

  abbrev AskedOf : ℕ → Pass → ℕ → List ℕ → Bool → Option Question → Type 0
  AskedOf b p i m a none = Unit {0}
  AskedOf b p i m a (some q) = Asked N L b p i m a q

  asked_look : (F : Fam) (l : ℕ) (p : Pass) (i : ℕ) (w : Bool) (m : List ℕ) (a : Bool) → Good_at sz P F l p i w m → AskedOf (l - 1) p i m a (asked I (look_at I l p i w m))
  asked_look F zero p i w m a h = tt
  asked_look F (suc b) p i w m a h =
      subst (λ (c : ℕ). AskedOf c p i m a (asked I (look_at I (suc b) p i w m))) {x = b} {y = suc b - 1} (omega arith) (on (look_at I (suc b) p i w m) (asks_in F b i m a p w h))
    where
      on : (x : Look) → Asks F b i m a p x → AskedOf b p i m a (asked I x)
      on over r = tt
      on (silent s) r = tt
      on (asks q) r = r

  -- after bits that some array's stream begins with
  pub asked_after : (A : List ℤ) (u : List Bool) → Begins N L P A u → (a : Bool) (q : Question) → ask I (after N L P u) ≡ some q
      → Asked N L ((after N L P u).left - 1) (after N L P u).pass (after N L P u).place (after N L P u).marks a q
  unfolding ask
  asked_after A u begins a q e =
      subst (λ (o : Option Question). AskedOf (s.left - 1) s.pass s.place s.marks a o) e
      (asked_look (notes N L size P (least N (begin N L P) u first.nothing) (known N L P u)) s.left s.pass s.place s.pending s.marks a
      (noted_all N L size P (bits_of_arr (arr_of A)) u ((begins_iff N L size P A u).0 begins).2))
    where
      s : State
      s = after N L P u

-- what an answer makes known down to the plane in progress was not so before
pub precision_before : (N L : ℕ) → Sized N L → (P : ℕ) (A : List ℤ) (u : List Bool) (a : Bool) → Begins N L P A (u ++ (a ∷ [])) → (q : Question) → ask (all_of N) (after N L P u) ≡ some q
    → (i : ℕ) → i < all_of N → completes N L (after N L P u).pass q a i ≡ true → precision_at N L P u i ≡ last_plane N L P u
precision_before N L size P A u a begins q e i hi z =
    precision_of_lem N L size P A u less i hi
    ∙ ap (λ (x : Bool). cond x (s.left - 1) s.left) (le-ltb (turn (all_of N) s.marks i) (standing (all_of N) s.pass s.place) ((asked_after N L size P A u less a q e).later i hi z))
  where
    s : State
    s = after N L P u

    less : Begins N L P A u
    less = begins_less N L size P A u (a ∷ []) begins
