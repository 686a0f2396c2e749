-- Steps of a pass over any source of answers, with bits enough: places that are skipped, sets that are tested, and four coefficients by themselves, one
-- after the other.
use Prim.Native.Nat.{ℕ, ◌+◌, ◌*◌, ◌/◌, ◌≤◌, ◌<◌}
use mathlib.Core.Path.{◌≡◌, refl, sym, ◌∙◌, subst}
use mathlib.Core.Bool.{Bool, true, false, cond}
use mathlib.Core.List.{List}
use native.Mathlib.Omega.{arith}
use borrow.Author.Tests.{eqb-true, eqb-false}
use lib.Dec.{ltb, eqb}
use lib.ListN.{length, set, get_or, length-set}
use lib.Seq.{set-get_or, get_or-set_same, get_or-set_other}
use Rattle.nls.specs.Scan.{Question, bit_of, sign_of, in_desc, in_grand, Pass, pixels, sets, refining}
use Rattle.nls.specs.Marks.{split_desc}
use Rattle.marking.specs.Marking.{skip_of, set_skip_of, put_four, desc_split_marks, grand_split_marks}
use Rattle.marking.proofs.Laws.{skip_low, skip_in, set_skip_in}
use Rattle.walk.specs.Scans.{move, Scan, Leads}
use Rattle.walk.specs.Visits.{Source, got, sv, one_seen, pixels_seen, refining_seen, visit_seen, scan_of}
use Rattle.walk.specs.Fours.{own_mark, own_rest, Own, of_pixel, of_refining, of_child, kept1, kept2, kept3, four_seen}
use Rattle.walk.proofs.VisitLaws.{one_zero, one_one, test_zero, test_one, pixels_own, pixels_skip, refining_own, refining_new, refining_skip, sets_one, sets_desc, sets_grand, sets_skip, visit_pixels, visit_sets, visit_refining}
use Rattle.walk.proofs.Turns.{at_go}

-- each answer takes a bit
abbrev pub Counts : {O : Type 0} → Source O → Type 0
Counts {O} K = (p : Pass) (b : ℕ) (q : Question) (x : Bool) (o : O) → K.used (K.keep p b q x o) ≡ K.used o + 1

-- a way that is not gone, and one after another
pub leads_none : {S : Type 0} (E : Scan S) (b pass p : ℕ) (t : S) → Leads E b pass p t p t
leads_none E b pass p t Y a = a

pub leads_on : {S : Type 0} (E : Scan S) (b pass p q r : ℕ) (t u v : S) → Leads E b pass p t q u → Leads E b pass q u r v → Leads E b pass p t r v
leads_on E b pass p q r t u v f g Y a = g Y (f Y a)

-- places that a pass skips
module _ {O : Type 0} (K : Source O) (I b i : ℕ) (m : List ℕ) (o : O) (h : i < I) (l : K.used o ≤ K.budget) where
  pub pixels_by : (get_or m i 0 ≡ 1 → ⊥) → Leads (scan_of K I) b 0 i (sv m o) (i + skip_of (get_or m i 0)) (sv m o)
  pixels_by d Y a =
      at_go (scan_of K I) b 0 i (sv m o) (i + skip_of (get_or m i 0)) (sv m o) Y a (visit_pixels K I b 0 i (sv m o) refl ∙ pixels_skip K b i (get_or m i 0) m o d) h (omega arith) (omega arith) l (omega (arith, skip_in (get_or m i 0)))

  pub refining_by : (get_or m i 0 ≡ 3 → ⊥) → (get_or m i 0 ≡ 2 → ⊥) → Leads (scan_of K I) b 2 i (sv m o) (i + skip_of (get_or m i 0)) (sv m o)
  refining_by d e Y a =
      at_go (scan_of K I) b 2 i (sv m o) (i + skip_of (get_or m i 0)) (sv m o) Y a
      (visit_refining K I b 2 i (sv m o) (λ (z : 2 ≡ 0). omega arith) (λ (z : 2 ≡ 1). omega arith) ∙ refining_skip K b i (get_or m i 0) m o d e) h (omega arith) (omega arith) l (omega (arith, skip_in (get_or m i 0)))

  pub sets_by : (get_or m i 0 ≡ 4 → ⊥) → (get_or m i 0 ≡ 5 → ⊥) → (get_or m i 0 ≡ 6 → ⊥) → Leads (scan_of K I) b 1 i (sv m o) (i + set_skip_of (get_or m i 0)) (sv m o)
  sets_by d e f Y a =
      at_go (scan_of K I) b 1 i (sv m o) (i + set_skip_of (get_or m i 0)) (sv m o) Y a
      (visit_sets K I b 1 i (sv m o) (λ (z : 1 ≡ 0). omega arith) refl ∙ sets_skip K I b i (get_or m i 0) m o d e f) h (omega arith) (omega arith) l (omega (arith, set_skip_in (get_or m i 0)))

-- a set that is tested
module _ {O : Type 0} (K : Source O) (c : Counts K) (I b i : ℕ) (m : List ℕ) (o : O) (h : i < I) (l : K.used o < K.budget) where
  pub desc_zero : get_or m i 0 ≡ 5 → K.next (in_desc (i / 4) b) o ≡ false → K.bars b (in_desc (i / 4) b) i m o ≡ false
      → Leads (scan_of K I) b 1 i (sv m o) (i + 4) (sv m (got K sets b (in_desc (i / 4) b) o))
  desc_zero e x z Y a =
      let n = c sets b (in_desc (i / 4) b) (K.next (in_desc (i / 4) b) o) o in
      at_go (scan_of K I) b 1 i (sv m o) (i + 4) (sv m (got K sets b (in_desc (i / 4) b) o)) Y a
      (visit_sets K I b 1 i (sv m o) (λ (y : 1 ≡ 0). omega arith) refl ∙ sets_desc K I b i (get_or m i 0) m o (λ (y : get_or m i 0 ≡ 4). omega arith) e ∙ test_zero K b i (in_desc (i / 4) b) 4 (K.bars b (in_desc (i / 4) b) i m o) (desc_split_marks I i m) m o l x z)
      h (omega arith) (omega (arith, n)) (omega (arith, n, l)) (omega (arith, n))

  pub desc_one : get_or m i 0 ≡ 5 → K.next (in_desc (i / 4) b) o ≡ true
      → Leads (scan_of K I) b 1 i (sv m o) i (sv (desc_split_marks I i m) (got K sets b (in_desc (i / 4) b) o))
  desc_one e x Y a =
      let n = c sets b (in_desc (i / 4) b) (K.next (in_desc (i / 4) b) o) o in
      at_go (scan_of K I) b 1 i (sv m o) i (sv (desc_split_marks I i m) (got K sets b (in_desc (i / 4) b) o)) Y a
      (visit_sets K I b 1 i (sv m o) (λ (y : 1 ≡ 0). omega arith) refl ∙ sets_desc K I b i (get_or m i 0) m o (λ (y : get_or m i 0 ≡ 4). omega arith) e ∙ test_one K b i (in_desc (i / 4) b) 4 (K.bars b (in_desc (i / 4) b) i m o) (desc_split_marks I i m) m o l x)
      h (omega arith) (omega (arith, n)) (omega (arith, n, l)) (omega (arith, n))

  pub grand_zero : get_or m i 0 ≡ 6 → K.next (in_grand (i / 16) b) o ≡ false → K.bars b (in_grand (i / 16) b) i m o ≡ false
      → Leads (scan_of K I) b 1 i (sv m o) (i + 16) (sv m (got K sets b (in_grand (i / 16) b) o))
  grand_zero e x z Y a =
      let n = c sets b (in_grand (i / 16) b) (K.next (in_grand (i / 16) b) o) o in
      at_go (scan_of K I) b 1 i (sv m o) (i + 16) (sv m (got K sets b (in_grand (i / 16) b) o)) Y a
      (visit_sets K I b 1 i (sv m o) (λ (y : 1 ≡ 0). omega arith) refl ∙ sets_grand K I b i (get_or m i 0) m o (λ (y : get_or m i 0 ≡ 4). omega arith) (λ (y : get_or m i 0 ≡ 5). omega arith) e ∙ test_zero K b i (in_grand (i / 16) b) 16 (K.bars b (in_grand (i / 16) b) i m o) (grand_split_marks I i m) m o l x z)
      h (omega arith) (omega (arith, n)) (omega (arith, n, l)) (omega (arith, n))

  pub grand_one : get_or m i 0 ≡ 6 → K.next (in_grand (i / 16) b) o ≡ true
      → Leads (scan_of K I) b 1 i (sv m o) i (sv (grand_split_marks I i m) (got K sets b (in_grand (i / 16) b) o))
  grand_one e x Y a =
      let n = c sets b (in_grand (i / 16) b) (K.next (in_grand (i / 16) b) o) o in
      at_go (scan_of K I) b 1 i (sv m o) i (sv (grand_split_marks I i m) (got K sets b (in_grand (i / 16) b) o)) Y a
      (visit_sets K I b 1 i (sv m o) (λ (y : 1 ≡ 0). omega arith) refl ∙ sets_grand K I b i (get_or m i 0) m o (λ (y : get_or m i 0 ≡ 4). omega arith) (λ (y : get_or m i 0 ≡ 5). omega arith) e ∙ test_one K b i (in_grand (i / 16) b) 16 (K.bars b (in_grand (i / 16) b) i m o) (grand_split_marks I i m) m o l x)
      h (omega arith) (omega (arith, n)) (omega (arith, n, l)) (omega (arith, n))

-- What a pass does at a place is as `D` says, where its mark is so and a 0 is not barred, and takes at most `most` bits.
pub record Steps {O : Type 0} (K : Source O) (I b pass most : ℕ) (Ok : ℕ → Type 0) (Free : ℕ → List ℕ → O → Type 0) (D : Own O) : Type 0 where
  pub goes : (i : ℕ) (m : List ℕ) (o : O) → Ok (get_or m i 0) → Free i m o → K.used o + most ≤ K.budget
      → visit_seen K I b pass i (sv m o) ≡ move (i + 1) (sv (set m i (D.mark i (get_or m i 0) o)) (D.rest i (get_or m i 0) o))
  pub takes : (i v : ℕ) (o : O) → (K.used o ≤ K.used (D.rest i v o)) × (K.used (D.rest i v o) ≤ K.used o + most)

module _ {O : Type 0} (K : Source O) (I b pass most : ℕ) (Ok : ℕ → Type 0) (Free : ℕ → List ℕ → O → Type 0) (D : Own O) (s : Steps K I b pass most Ok Free D) where
  -- one place on; v is its mark, and k where the next one is
  one : (i k : ℕ) (m : List ℕ) (o : O) (v room : ℕ) → get_or m i 0 ≡ v → Ok v → Free i m o → k ≡ i + 1 → i < I → K.used o + (most + room) ≤ K.budget
      → Leads (scan_of K I) b pass i (sv m o) k (sv (set m i (D.mark i v o)) (D.rest i v o)) × (K.used (D.rest i v o) + room ≤ K.budget)
  one i k m o v room e ok fr ek h l =
      let t = s.takes i v o in
      let go = s.goes i m o (subst Ok (sym e) ok) fr (omega arith) in
      let way = go ∙ (λ j. move (sym ek j) (sv (set m i (D.mark i (e j) o)) (D.rest i (e j) o))) in
      ((λ Y a. at_go (scan_of K I) b pass i (sv m o) k (sv (set m i (D.mark i v o)) (D.rest i v o)) Y a way h (omega arith) t.0 (omega (arith, t.1, l)) (omega (arith, t.0))), omega (arith, t.1, l))

  still : (m : List ℕ) (i j x v : ℕ) → (j ≡ i → ⊥) → get_or m j 0 ≡ v → get_or (set m i x) j 0 ≡ v
  still m i j x v d e = get_or-set_other m i j x 0 d ∙ e

  module _ (i : ℕ) (m : List ℕ) (o : O) where
    abbrev m1 : List ℕ
    m1 = set m i (D.mark i (get_or m i 0) o)

    abbrev m2 : List ℕ
    m2 = set m1 (i + 1) (D.mark (i + 1) (get_or m (i + 1) 0) (kept1 D i m o))

    abbrev m3 : List ℕ
    m3 = set m2 (i + 2) (D.mark (i + 2) (get_or m (i + 2) 0) (kept2 D i m o))

    -- four places on
    pub four_on : Ok (get_or m i 0) → Ok (get_or m (i + 1) 0) → Ok (get_or m (i + 2) 0) → Ok (get_or m (i + 3) 0)
        → Free i m o → Free (i + 1) m1 (kept1 D i m o) → Free (i + 2) m2 (kept2 D i m o) → Free (i + 3) m3 (kept3 D i m o)
        → i + 3 < I → K.used o + 4 * most ≤ K.budget → Leads (scan_of K I) b pass i (sv m o) (i + 4) (four_seen D i m o)
    four_on v0 v1 v2 v3 f0 f1 f2 f3 h l =
        let a0 = one i (i + 1) m o (get_or m i 0) (most + (most + (most + 0))) refl v0 f0 refl (omega arith) (omega (arith, l)) in
        let a1 = one (i + 1) (i + 2) m1 (kept1 D i m o) (get_or m (i + 1) 0) (most + (most + 0)) (still m i (i + 1) _ _ (λ (z : i + 1 ≡ i). omega arith) refl) v1 f1 (omega arith) (omega arith) a0.1 in
        let a2 = one (i + 2) (i + 3) m2 (kept2 D i m o) (get_or m (i + 2) 0) (most + 0) (still m1 (i + 1) (i + 2) _ _ (λ (z : i + 2 ≡ i + 1). omega arith) (still m i (i + 2) _ _ (λ (z : i + 2 ≡ i). omega arith) refl)) v2 f2 (omega arith) (omega arith) a1.1 in
        let a3 = one (i + 3) (i + 4) m3 (kept3 D i m o) (get_or m (i + 3) 0) 0 (still m2 (i + 2) (i + 3) _ _ (λ (z : i + 3 ≡ i + 2). omega arith) (still m1 (i + 1) (i + 3) _ _ (λ (z : i + 3 ≡ i + 1). omega arith) (still m i (i + 3) _ _ (λ (z : i + 3 ≡ i). omega arith) refl))) v3 f3 (omega arith) h a2.1 in
        λ Y a. a3.0 Y (a2.0 Y (a1.0 Y (a0.0 Y a)))

-- the bits that a coefficient by itself takes
module _ {O : Type 0} (K : Source O) (c : Counts K) (p : Pass) (b i : ℕ) (o : O) where
  own_used : (x : Bool) → (K.used o ≤ K.used (cond x (got K p b (sign_of i) (got K p b (bit_of i b) o)) (got K p b (bit_of i b) o))) × (K.used (cond x (got K p b (sign_of i) (got K p b (bit_of i b) o)) (got K p b (bit_of i b) o)) ≤ K.used o + 2)
  own_used true =
      let q = got K p b (bit_of i b) o in
      let k = c p b (bit_of i b) (K.next (bit_of i b) o) o in
      let j = c p b (sign_of i) (K.next (sign_of i) q) q in
      (omega (arith, k, j), omega (arith, k, j))
  own_used false =
      let k = c p b (bit_of i b) (K.next (bit_of i b) o) o in
      (omega (arith, k), omega (arith, k))

  own_seen : (bar : Bool) (m : List ℕ) → (K.next (bit_of i b) o ≡ false → bar ≡ false) → K.used o + 2 ≤ K.budget
      → one_seen K p b i bar m o ≡ move (i + 1) (sv (set m i (own_mark K b i o)) (own_rest K p b i o))
  own_seen bar m z l = on (K.next (bit_of i b) o) refl
    where
      on : (x : Bool) → K.next (bit_of i b) o ≡ x → one_seen K p b i bar m o ≡ move (i + 1) (sv (set m i (cond x 2 1)) (cond x (got K p b (sign_of i) (got K p b (bit_of i b) o)) (got K p b (bit_of i b) o)))
      on true e = one_one K p b i bar m o (omega arith) e (omega (arith, l, c p b (bit_of i b) (K.next (bit_of i b) o) o))
      on false e = one_zero K p b i bar m o (omega arith) e (z e)

-- a mark below MCP, and a child's
abbrev pub Low : ℕ → Type 0
Low v = v < 4

abbrev pub Child : ℕ → Type 0
Child v = v ≡ 4

-- nothing is barred; a child's 0 is not
abbrev Always : {O : Type 0} → ℕ → List ℕ → O → Type 0
Always i m o = Unit {0}

pub record NotBarred {O : Type 0} (K : Source O) (b i : ℕ) (m : List ℕ) (o : O) : Type 0 where
  pub zero_free : K.next (bit_of i b) o ≡ false → K.bars b (bit_of i b) i m o ≡ false

module _ {O : Type 0} (K : Source O) (c : Counts K) (I b : ℕ) where
  -- the pixel pass
  pixel_seen : (i : ℕ) (m : List ℕ) (o : O) (v : ℕ) → get_or m i 0 ≡ v → v < 4 → K.used o + 2 ≤ K.budget → (t : Bool) → eqb v 1 ≡ t
      → pixels_seen K b i v m o ≡ move (i + 1) (sv (set m i (cond t (own_mark K b i o) v)) (cond t (own_rest K pixels b i o) o))
  pixel_seen i m o v g h l true e = pixels_own K b i v m o (eqb-true v 1 e) ∙ own_seen K c pixels b i o false m (λ _. refl) l
  pixel_seen i m o v g h l false e =
      let same : set m i v ≡ m = subst (λ (x : ℕ). set m i x ≡ m) g (set-get_or m i 0) in
      pixels_skip K b i v m o (eqb-false v 1 e) ∙ (λ j. move (i + skip_low v (omega arith) j) (sv (sym same j) o))

  pixel_used : (i : ℕ) (o : O) (t : Bool) → (K.used o ≤ K.used (cond t (own_rest K pixels b i o) o)) × (K.used (cond t (own_rest K pixels b i o) o) ≤ K.used o + 2)
  pixel_used i o true = own_used K c pixels b i o (K.next (bit_of i b) o)
  pixel_used i o false = (omega arith, omega arith)

  pixel_steps : Steps K I b 0 2 Low Always (of_pixel K b)
  pixel_steps =
      record {
        goes = λ i m o v f l. visit_pixels K I b 0 i (sv m o) refl ∙ pixel_seen i m o (get_or m i 0) refl v l (eqb (get_or m i 0) 1) refl;
        takes = λ i v o. pixel_used i o (eqb v 1);
      }

  -- the refinement pass
  refining_seen_lem : (i : ℕ) (m : List ℕ) (o : O) (v : ℕ) → get_or m i 0 ≡ v → v < 4 → K.used o < K.budget → (t n : Bool) → eqb v 3 ≡ t → eqb v 2 ≡ n
      → refining_seen K b i v m o ≡ move (i + 1) (sv (set m i (cond n 3 v)) (cond t (got K refining b (bit_of i b) o) o))
  refining_seen_lem i m o v g h l true true e f = absurd (omega (arith, eqb-true v 3 e, eqb-true v 2 f))
  refining_seen_lem i m o v g h l true false e f =
      let same : set m i v ≡ m = subst (λ (x : ℕ). set m i x ≡ m) g (set-get_or m i 0) in
      refining_own K b i v m o (eqb-true v 3 e) l ∙ (λ j. move (i + 1) (sv (sym same j) (got K refining b (bit_of i b) o)))
  refining_seen_lem i m o v g h l false true e f = refining_new K b i v m o (eqb-false v 3 e) (eqb-true v 2 f)
  refining_seen_lem i m o v g h l false false e f =
      let same : set m i v ≡ m = subst (λ (x : ℕ). set m i x ≡ m) g (set-get_or m i 0) in
      refining_skip K b i v m o (eqb-false v 3 e) (eqb-false v 2 f) ∙ (λ j. move (i + skip_low v (omega arith) j) (sv (sym same j) o))

  refining_used : (i : ℕ) (o : O) (t : Bool) → (K.used o ≤ K.used (cond t (got K refining b (bit_of i b) o) o)) × (K.used (cond t (got K refining b (bit_of i b) o) o) ≤ K.used o + 1)
  refining_used i o true = let k = c refining b (bit_of i b) (K.next (bit_of i b) o) o in (omega (arith, k), omega (arith, k))
  refining_used i o false = (omega arith, omega arith)

  refining_steps : Steps K I b 2 1 Low Always (of_refining K b)
  refining_steps =
      record {
        goes = λ i m o v f l. visit_refining K I b 2 i (sv m o) (λ (z : 2 ≡ 0). omega arith) (λ (z : 2 ≡ 1). omega arith) ∙ refining_seen_lem i m o (get_or m i 0) refl v (omega (arith, l)) (eqb (get_or m i 0) 3) (eqb (get_or m i 0) 2) refl refl;
        takes = λ i v o. refining_used i o (eqb v 3);
      }

  -- the children of a set that was just split
  child_steps : Steps K I b 1 2 Child (NotBarred K b) (of_child K b)
  child_steps =
      record {
        goes = λ i m o v f l. visit_sets K I b 1 i (sv m o) (λ (z : 1 ≡ 0). omega arith) refl ∙ sets_one K I b i (get_or m i 0) m o v ∙ own_seen K c sets b i o (K.bars b (bit_of i b) i m o) m f.zero_free l;
        takes = λ i v o. own_used K c sets b i o (K.next (bit_of i b) o);
      }

  module _ (i : ℕ) (m : List ℕ) (o : O) (h : i + 3 < I) where
    pub four_pixels : Low (get_or m i 0) → Low (get_or m (i + 1) 0) → Low (get_or m (i + 2) 0) → Low (get_or m (i + 3) 0) → K.used o + 8 ≤ K.budget
        → Leads (scan_of K I) b 0 i (sv m o) (i + 4) (four_seen (of_pixel K b) i m o)
    four_pixels v0 v1 v2 v3 l = four_on K I b 0 2 Low Always (of_pixel K b) pixel_steps i m o v0 v1 v2 v3 tt tt tt tt h l

    pub four_refined : Low (get_or m i 0) → Low (get_or m (i + 1) 0) → Low (get_or m (i + 2) 0) → Low (get_or m (i + 3) 0) → K.used o + 4 ≤ K.budget
        → Leads (scan_of K I) b 2 i (sv m o) (i + 4) (four_seen (of_refining K b) i m o)
    four_refined v0 v1 v2 v3 l = four_on K I b 2 1 Low Always (of_refining K b) refining_steps i m o v0 v1 v2 v3 tt tt tt tt h l

    pub four_children : Child (get_or m i 0) → Child (get_or m (i + 1) 0) → Child (get_or m (i + 2) 0) → Child (get_or m (i + 3) 0)
        → NotBarred K b i m o
        → NotBarred K b (i + 1) (set m i (own_mark K b i o)) (kept1 (of_child K b) i m o)
        → NotBarred K b (i + 2) (set (set m i (own_mark K b i o)) (i + 1) (own_mark K b (i + 1) (kept1 (of_child K b) i m o))) (kept2 (of_child K b) i m o)
        → NotBarred K b (i + 3) (set (set (set m i (own_mark K b i o)) (i + 1) (own_mark K b (i + 1) (kept1 (of_child K b) i m o))) (i + 2) (own_mark K b (i + 2) (kept2 (of_child K b) i m o))) (kept3 (of_child K b) i m o)
        → K.used o + 8 ≤ K.budget
        → Leads (scan_of K I) b 1 i (sv m o) (i + 4) (four_seen (of_child K b) i m o)
    four_children v0 v1 v2 v3 f0 f1 f2 f3 l = four_on K I b 1 2 Child (NotBarred K b) (of_child K b) child_steps i m o v0 v1 v2 v3 f0 f1 f2 f3 h l

-- four places at which a pass has nothing to do
module _ {O : Type 0} (K : Source O) (I b i : ℕ) (m : List ℕ) (o : O) (h : i + 3 < I) (l : K.used o ≤ K.budget) where
  by_one : (pass j k v : ℕ) → get_or m j 0 ≡ v → v < 4 → k ≡ j + 1 → Leads (scan_of K I) b pass j (sv m o) (j + skip_of (get_or m j 0)) (sv m o) → Leads (scan_of K I) b pass j (sv m o) k (sv m o)
  by_one pass j k v e s f g = subst (λ (q : ℕ). Leads (scan_of K I) b pass j (sv m o) q (sv m o)) (omega (arith, f, skip_low (get_or m j 0) (omega (arith, e, s)))) g

  in_turn : (pass : ℕ) → Leads (scan_of K I) b pass i (sv m o) (i + 1) (sv m o) → Leads (scan_of K I) b pass (i + 1) (sv m o) (i + 2) (sv m o) → Leads (scan_of K I) b pass (i + 2) (sv m o) (i + 3) (sv m o)
      → Leads (scan_of K I) b pass (i + 3) (sv m o) (i + 4) (sv m o) → Leads (scan_of K I) b pass i (sv m o) (i + 4) (sv m o)
  in_turn pass w x y z Y a = z Y (y Y (x Y (w Y a)))

  no_pixel : (j k v : ℕ) → get_or m j 0 ≡ v → v < 4 → (v ≡ 1 → ⊥) → k ≡ j + 1 → j < I → Leads (scan_of K I) b 0 j (sv m o) k (sv m o)
  no_pixel j k v e s d f g = by_one 0 j k v e s f (pixels_by K I b j m o g l (λ (z : get_or m j 0 ≡ 1). d (sym e ∙ z)))

  pub idle_pixels : Low (get_or m i 0) → Low (get_or m (i + 1) 0) → Low (get_or m (i + 2) 0) → Low (get_or m (i + 3) 0)
      → (get_or m i 0 ≡ 1 → ⊥) → (get_or m (i + 1) 0 ≡ 1 → ⊥) → (get_or m (i + 2) 0 ≡ 1 → ⊥) → (get_or m (i + 3) 0 ≡ 1 → ⊥) → Leads (scan_of K I) b 0 i (sv m o) (i + 4) (sv m o)
  idle_pixels v0 v1 v2 v3 d0 d1 d2 d3 =
      in_turn 0 (no_pixel i (i + 1) _ refl v0 d0 refl (omega arith)) (no_pixel (i + 1) (i + 2) _ refl v1 d1 (omega arith) (omega arith)) (no_pixel (i + 2) (i + 3) _ refl v2 d2 (omega arith) (omega arith))
      (no_pixel (i + 3) (i + 4) _ refl v3 d3 (omega arith) h)

  no_refining : (j k : ℕ) → get_or m j 0 ≡ 1 → k ≡ j + 1 → j < I → Leads (scan_of K I) b 2 j (sv m o) k (sv m o)
  no_refining j k e f g = by_one 2 j k 1 e (omega arith) f (refining_by K I b j m o g l (λ (z : get_or m j 0 ≡ 3). omega arith) (λ (z : get_or m j 0 ≡ 2). omega arith))

  pub idle_refining : get_or m i 0 ≡ 1 → get_or m (i + 1) 0 ≡ 1 → get_or m (i + 2) 0 ≡ 1 → get_or m (i + 3) 0 ≡ 1 → Leads (scan_of K I) b 2 i (sv m o) (i + 4) (sv m o)
  idle_refining e0 e1 e2 e3 =
      in_turn 2 (no_refining i (i + 1) e0 refl (omega arith)) (no_refining (i + 1) (i + 2) e1 (omega arith) (omega arith)) (no_refining (i + 2) (i + 3) e2 (omega arith) (omega arith)) (no_refining (i + 3) (i + 4) e3 (omega arith) h)

-- the four marks of a DESC that was just split, at a place behind which it lies
module _ (I i : ℕ) (m : List ℕ) (h : i + 3 < length m) (l : 2 ≤ i) where
  four_here : (r : List ℕ) → r ≡ put_four m i 4 4 4 4 → (get_or r i 0 ≡ 4) × (get_or r (i + 1) 0 ≡ 4) × (get_or r (i + 2) 0 ≡ 4) × (get_or r (i + 3) 0 ≡ 4)
  four_here r e = rw e (
    get_or-set_other (set (set (set m i 4) (i + 1) 4) (i + 2) 4) (i + 3) i 4 0 (λ (z : i ≡ i + 3). omega arith) ∙ get_or-set_other (set (set m i 4) (i + 1) 4) (i + 2) i 4 0 (λ (z : i ≡ i + 2). omega arith) ∙ get_or-set_other (set m i 4) (i + 1) i 4 0 (λ (z : i ≡ i + 1). omega arith) ∙ get_or-set_same m i 4 0 (omega arith),
    get_or-set_other (set (set (set m i 4) (i + 1) 4) (i + 2) 4) (i + 3) (i + 1) 4 0 (λ (z : i + 1 ≡ i + 3). omega arith) ∙ get_or-set_other (set (set m i 4) (i + 1) 4) (i + 2) (i + 1) 4 0 (λ (z : i + 1 ≡ i + 2). omega arith) ∙ get_or-set_same (set m i 4) (i + 1) 4 0 (omega (arith, length-set m i 4)),
    get_or-set_other (set (set (set m i 4) (i + 1) 4) (i + 2) 4) (i + 3) (i + 2) 4 0 (λ (z : i + 2 ≡ i + 3). omega arith) ∙ get_or-set_same (set (set m i 4) (i + 1) 4) (i + 2) 4 0 (omega (arith, length-set m i 4, length-set (set m i 4) (i + 1) 4)),
    get_or-set_same (set (set (set m i 4) (i + 1) 4) (i + 2) 4) (i + 3) 4 0 (omega (arith, length-set m i 4, length-set (set m i 4) (i + 1) 4, length-set (set (set m i 4) (i + 1) 4) (i + 2) 4)),
  )

  pub new_children : (get_or (desc_split_marks I i m) i 0 ≡ 4) × (get_or (desc_split_marks I i m) (i + 1) 0 ≡ 4) × (get_or (desc_split_marks I i m) (i + 2) 0 ≡ 4) × (get_or (desc_split_marks I i m) (i + 3) 0 ≡ 4)
  new_children = on (ltb (4 * i) I)
    where
      f : (get_or (put_four m i 4 4 4 4) i 0 ≡ 4) × (get_or (put_four m i 4 4 4 4) (i + 1) 0 ≡ 4) × (get_or (put_four m i 4 4 4 4) (i + 2) 0 ≡ 4) × (get_or (put_four m i 4 4 4 4) (i + 3) 0 ≡ 4)
      f = four_here (put_four m i 4 4 4 4) refl

      on : (t : Bool) → (get_or (split_desc I i m t) i 0 ≡ 4) × (get_or (split_desc I i m t) (i + 1) 0 ≡ 4) × (get_or (split_desc I i m t) (i + 2) 0 ≡ 4) × (get_or (split_desc I i m t) (i + 3) 0 ≡ 4)
      on true = (
        get_or-set_other (put_four m i 4 4 4 4) (4 * i) i 6 0 (λ (z : i ≡ 4 * i). omega arith) ∙ f.0,
        get_or-set_other (put_four m i 4 4 4 4) (4 * i) (i + 1) 6 0 (λ (z : i + 1 ≡ 4 * i). omega arith) ∙ f.1,
        get_or-set_other (put_four m i 4 4 4 4) (4 * i) (i + 2) 6 0 (λ (z : i + 2 ≡ 4 * i). omega arith) ∙ f.2,
        get_or-set_other (put_four m i 4 4 4 4) (4 * i) (i + 3) 6 0 (λ (z : i + 3 ≡ 4 * i). omega arith) ∙ f.3,
      )
      on false = f

pub split_length : (I i : ℕ) (m : List ℕ) → length (desc_split_marks I i m) ≡ length m
split_length I i m = on (ltb (4 * i) I)
  where
    four_set : length (put_four m i 4 4 4 4) ≡ length m
    four_set = length-set (set (set (set m i 4) (i + 1) 4) (i + 2) 4) (i + 3) 4 ∙ length-set (set (set m i 4) (i + 1) 4) (i + 2) 4 ∙ length-set (set m i 4) (i + 1) 4 ∙ length-set m i 4

    on : (t : Bool) → length (split_desc I i m t) ≡ length m
    on true = length-set (put_four m i 4 4 4 4) (4 * i) 6 ∙ four_set
    on false = four_set
