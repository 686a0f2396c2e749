-- Looks at places, and the silent moves: places passed over at once, each way through a look, and the turns of the loop over looks.
use Prim.Native.Nat.{ℕ, zero, suc, ◌+◌, ◌-◌, ◌/◌, ◌≤◌, ◌<◌, min}
use mathlib.Core.Path.{◌≡◌, refl, sym, ap, subst, ◌∙◌}
use mathlib.Core.Bool.{Bool, true, false, cond, ◌||◌, or-false}
use mathlib.Core.List.{List}
use mathlib.Core.Logic.{◌⊎◌, inl, inr}
use native.Mathlib.Omega.{arith}
use native.Mathlib.Nat.{pow-le-pow_right}
use borrow.Author.Tests.{lt-ltb, le-ltb, ltb-true, ltb-false, le-leb, eq-eqb, ne_eqb, eqb-true, eqb-false}
use lib.Dec.{ltb, leb, eqb, lit<}
use lib.ListN.{length, get_or, set, length-set}
use lib.Seq.{get_or-set_other}
use Rattle.std.specs.Prelude.{Some, None}
use Rattle.sizes.specs.Sizes.{most_n, all_of}
use Rattle.nls.specs.Marks.{MIP, MNP, MSP, MCP, MD, MG, skip, set_skip}
use Rattle.nls.specs.Scan.{Question, bit_of, sign_of, in_desc, in_grand, Pass, pixels, sets, refining, State, state_at, Look, silent, asks, look, settle, moves_left}
use Rattle.nls.proofs.Booleans.{neither}
use Rattle.nls.proofs.Machine.Run.{skip_pos, settle_hush, settle_asks, settle_over, Falls, falls}
use Rattle.nls.proofs.Machine.Table.{skip_7}
use Rattle.nls.proofs.Machine.Cover.{sskip_small, sskip_big}
use Rattle.marking.specs.Marking.{codes_end, skip_of, same_four, set_four}
use Rattle.marking.proofs.Laws.{skip_is, four_told}
use Rattle.moves.specs.Stands.{pass_of, stand, state_of, stand_of}
use Rattle.moves.specs.Moves.{Moves, Passed}
use Rattle.moves.specs.declared.Stand.{Stand}
use Rattle.moves.proofs.Passes.{pass_back}

-- ---- skips

-- a code without a meaning skips all
skip_all : (k : ℕ) → codes_end ≤ k → all_of most_n ≤ skip k
skip_all k h = rw (skip_7 k (omega arith)) (pow-le-pow_right {n = 4} (omega arith) {i = most_n} {j = k - 5} (omega (arith, h)))

module _ (I k i : ℕ) where
  pub behind_known : (n : ℕ) → n ≡ skip_of k → k < codes_end → (min (i + n) I ≡ min (i + skip k) I) × (i < i + n)
  behind_known n f h = let g : n ≡ skip k = f ∙ skip_is k h in rw g (refl, omega (arith, skip_pos k))

  pub behind_all : codes_end ≤ k → i < I → I ≤ all_of most_n → (min I I ≡ min (i + skip k) I) × (i < I)
  behind_all h w o = (omega (arith, skip_all k h), w)

  -- a set is skipped as far in the set pass
  pub behind_set : (r : ℕ) → (min r I ≡ min (i + skip k) I) × (i < r) → 4 ≤ k → (k ≡ 4 → ⊥) → (min r I ≡ min (i + set_skip k) I) × (i < r)
  behind_set r e h n = rw (sskip_big k (omega arith)) e

-- ---- places passed over

-- of two ways on which a pass asks nothing, one begins where the other ends
pub passed_on : {I : ℕ} {p : Pass} {i j k : ℕ} {m n o : List ℕ} → Passed I p i m j n → Passed I p j n k o → Passed I p i m k o
passed_on u v = record { on = omega arith; long = v.long ∙ u.long; ahead = λ b. v.ahead b ∙ u.ahead b }

passed_four : {I : ℕ} {p : Pass} (i : ℕ) {m n o q r : List ℕ} → Passed I p i m (i + 1) n → Passed I p (i + 1) n (i + 1 + 1) o → Passed I p (i + 2) o (i + 2 + 1) q → Passed I p (i + 3) q (i + 3 + 1) r
    → Passed I p i m (i + 4) r
passed_four i a b c d =
    let e : i + 1 + 1 ≡ i + 2 = omega arith in
    let f : i + 2 + 1 ≡ i + 3 = omega arith in
    let g : i + 3 + 1 ≡ i + 4 = omega arith in
    passed_on a (passed_on (rw e at b) (passed_on (rw f at c) (rw g at d)))

-- one place
module _ (I i : ℕ) (m : List ℕ) where
  passed_hush : (p : Pass) (j : ℕ) (n : List ℕ) → ((b : ℕ) → look I (state_at (suc b) p i m) ≡ silent (state_at (suc b) p j n)) → i ≤ j → length n ≡ length m → Passed I p i m j n
  passed_hush p j n f h e = record { on = h; long = e; ahead = λ b. sym (settle_hush I (state_at (suc b) p i m) (state_at (suc b) p j n) (f b)) }

  pub old_one : i < I → get_or m i 0 ≡ MSP → Passed I pixels i m (i + 1) m
  unfolding skip
  old_one w e = passed_hush pixels (i + 1) m (λ b. rw (lt-ltb i I w, e, e)) (omega arith) refl

  pub alone_one : i < I → get_or m i 0 < MCP → Passed I sets i m (i + 4) m
  alone_one w h =
      passed_hush sets (i + 4) m
      (λ b. rw (lt-ltb i I w, ne_eqb (get_or m i 0) MD (λ e. omega arith), ne_eqb (get_or m i 0) MG (λ e. omega arith), ne_eqb (get_or m i 0) MCP (λ e. omega arith), sskip_small (get_or m i 0) (omega arith)))
      (omega arith) refl

  new_found : i < I → get_or m i 0 ≡ MNP → Passed I refining i m (i + 1) (set m i MSP)
  new_found w e = passed_hush refining (i + 1) (set m i MSP) (λ b. rw (lt-ltb i I w, e)) (omega arith) (length-set m i MSP)

  new_not : i < I → get_or m i 0 ≡ MIP → Passed I refining i m (i + 1) m
  unfolding skip
  new_not w e = passed_hush refining (i + 1) m (λ b. rw (lt-ltb i I w, e, e)) (omega arith) refl

-- a place by what `is_new` answers, and leaves of the marks
abbrev pub IsNew : List ℕ → ℕ → Bool → List ℕ → Type 0
IsNew m i x n = (x ≡ (eqb (get_or m i 0) MIP || eqb (get_or m i 0) MNP)) × (n ≡ cond (eqb (get_or m i 0) MNP) (set m i MSP) m)

module _ (i : ℕ) (m : List ℕ) (x : Bool) (n : List ℕ) (e : IsNew m i x n) where
  pub new_one : (I : ℕ) → x ≡ true → i < I → Passed I refining i m (i + 1) n
  new_one I t w = on (eqb (get_or m i 0) MNP) refl e.0 e.1
    where
      on : (y : Bool) → eqb (get_or m i 0) MNP ≡ y → x ≡ (eqb (get_or m i 0) MIP || y) → n ≡ cond y (set m i MSP) m → Passed I refining i m (i + 1) n
      on true q a f = rw f (new_found I i m w (eqb-true (get_or m i 0) MNP q))
      on false q a f = rw f (new_not I i m w (eqb-true (get_or m i 0) MIP (sym (or-false (eqb (get_or m i 0) MIP)) ∙ sym a ∙ t)))

  none_new : x ≡ false → eqb (get_or m i 0) MNP ≡ false
  none_new t = (neither (eqb (get_or m i 0) MIP) (eqb (get_or m i 0) MNP) (sym e.0 ∙ t)).1

  pub new_same : x ≡ false → n ≡ m
  new_same t = e.1 ∙ rw (none_new t)

-- four places; what is written stands before the marks that are still to be read
later : (m : List ℕ) (i j : ℕ) → i < j → get_or m j 0 ≡ MNP → get_or (set m i MSP) j 0 ≡ MNP
later m i j h e = get_or-set_other m i j MSP 0 (λ q. omega arith) ∙ e

module _ (I i : ℕ) (m : List ℕ) (long : length m ≡ I) where
  pub old_four : same_four m i MSP ≡ true → Passed I pixels i m (i + 4) m
  old_four e =
      let f = four_told m i MSP e in
      passed_four i (old_one I i m (omega arith) f.1) (old_one I (i + 1) m (omega arith) f.2) (old_one I (i + 2) m (omega arith) f.3) (old_one I (i + 3) m (omega arith) f.4)

  pub new_four : (n : List ℕ) → n ≡ cond (leb (i + 4) (length m)) (set_four m i MSP) m → same_four m i MNP ≡ true → Passed I refining i m (i + 4) n
  new_four n g e =
      let f = four_told m i MNP e in
      let a : List ℕ = set m i MSP in
      let b : List ℕ = set a (i + 1) MSP in
      let c : List ℕ = set b (i + 2) MSP in
      rw (g, le-leb (i + 4) (length m) f.0)
      (passed_four i (new_found I i m (omega arith) f.1)
      (new_found I (i + 1) a (omega arith) (later m i (i + 1) (omega arith) f.2))
      (new_found I (i + 2) b (omega arith) (later a (i + 1) (i + 2) (omega arith) (later m i (i + 2) (omega arith) f.3)))
      (new_found I (i + 3) c (omega arith) (later b (i + 2) (i + 3) (omega arith) (later a (i + 1) (i + 3) (omega arith) (later m i (i + 3) (omega arith) f.4)))))

-- ---- one look

module _ (I : ℕ) where
  rests : (s : State) (q : Question) → look I s ≡ asks q → Moves I s None s.marks
  rests s q e = (refl, settle_asks I s q e)

  goes : (s : State) (l p i : ℕ) → look I s ≡ silent (state_at l (pass_of p) i s.marks) → p < 3 → Moves I s (Some (stand l p i false)) s.marks
  goes s l p i e h =
      (refl, h, refl, sym (settle_hush I s (state_at l (pass_of p) i s.marks) e), subst (λ (k : Look). Falls I (moves_left I s) k) e (falls I s))

  -- from any two places past the last one a pass goes on alike
  past_alike : (b : ℕ) (p : Pass) (i j : ℕ) (m : List ℕ) → I ≤ i → I ≤ j → settle I (state_at (suc b) p i m) ≡ settle I (state_at (suc b) p j m)
  past_alike b pixels i j m h w =
      let t = state_at (suc b) sets 0 m in settle_hush I (state_at (suc b) pixels i m) t (rw (le-ltb i I h)) ∙ sym (settle_hush I (state_at (suc b) pixels j m) t (rw (le-ltb j I w)))
  past_alike b sets i j m h w =
      let t = state_at (suc b) refining 0 m in settle_hush I (state_at (suc b) sets i m) t (rw (le-ltb i I h)) ∙ sym (settle_hush I (state_at (suc b) sets j m) t (rw (le-ltb j I w)))
  past_alike b refining i j m h w =
      let t = state_at b pixels 0 m in settle_hush I (state_at (suc b) refining i m) t (rw (le-ltb i I h)) ∙ sym (settle_hush I (state_at (suc b) refining j m) t (rw (le-ltb j I w)))

  alike : (b : ℕ) (p : Pass) (i j : ℕ) (m : List ℕ) → min i I ≡ min j I → settle I (state_at (suc b) p i m) ≡ settle I (state_at (suc b) p j m)
  alike b p i j m e = on (ltb i I) refl
    where
      on : (x : Bool) → ltb i I ≡ x → settle I (state_at (suc b) p i m) ≡ settle I (state_at (suc b) p j m)
      on true q = let s : i ≡ j = omega (arith, ltb-true i I q) in ap (λ (k : ℕ). settle I (state_at (suc b) p k m)) s
      on false q = past_alike b p i j m (ltb-false i I q) (omega (arith, ltb-false i I q))

  goes_behind : (b p i k r : ℕ) (m : List ℕ) → look I (state_at (suc b) (pass_of p) i m) ≡ silent (state_at (suc b) (pass_of p) k m) → (min r I ≡ min k I) × (i < r)
      → i < I → p < 3 → Moves I (state_at (suc b) (pass_of p) i m) (Some (stand (suc b) p r false)) m
  goes_behind b p i k r m e f w h =
      let s = state_at (suc b) (pass_of p) i m in
      (refl, h, refl, alike b (pass_of p) r k m f.0 ∙ sym (settle_hush I s (state_at (suc b) (pass_of p) k m) e), omega (arith, f.1))

  goes_over : (l p i k j : ℕ) (m n o : List ℕ) → Passed I (pass_of p) i m k n → Passed I (pass_of p) k n j o → 1 ≤ l → p < 3 → i < k → i < I → Moves I (state_at l (pass_of p) i m) (Some (stand l p j false)) o
  goes_over zero p i k j m n o u v h q z w = absurd (omega arith)
  goes_over (suc b) p i k j m n o u v h q z w = let y : i < j = omega (arith, v.on) in (v.long ∙ u.long, q, refl, v.ahead b ∙ u.ahead b, omega arith)

module _ (I i : ℕ) (m : List ℕ) where
  pub pixels_end : (l : ℕ) → 1 ≤ l → I ≤ i → Moves I (state_at l pixels i m) (Some (stand l 1 0 false)) m
  unfolding pass_of
  pixels_end zero h w = absurd (omega arith)
  pixels_end (suc b) h w = goes I (state_at (suc b) pixels i m) (suc b) 1 0 (rw (le-ltb i I w)) (lit< tt)

  pub pixels_rests : (l : ℕ) → 1 ≤ l → i < I → get_or m i 0 ≡ MIP → Moves I (state_at l pixels i m) None m
  pixels_rests zero h w e = absurd (omega arith)
  pixels_rests (suc b) h w e = rests I (state_at (suc b) pixels i m) (bit_of i b) (rw (lt-ltb i I w, eq-eqb (get_or m i 0) MIP e))

  pub pixels_goes : (l r : ℕ) → (min r I ≡ min (i + skip (get_or m i 0)) I) × (i < r) → 1 ≤ l → i < I → (get_or m i 0 ≡ MIP → ⊥) → Moves I (state_at l pixels i m) (Some (stand l 0 r false)) m
  unfolding pass_of
  pixels_goes zero r f h w e = absurd (omega arith)
  pixels_goes (suc b) r f h w e = goes_behind I b 0 i (i + skip (get_or m i 0)) r m (rw (lt-ltb i I w, ne_eqb (get_or m i 0) MIP e)) f w (lit< tt)

  pub pixels_over : (l j : ℕ) → Passed I pixels (i + 1) m j m → 1 ≤ l → i < I → get_or m i 0 ≡ MSP → Moves I (state_at l pixels i m) (Some (stand l 0 j false)) m
  unfolding pass_of
  pixels_over l j v h w e = goes_over I l 0 i (i + 1) j m m m (old_one I i m w e) v h (lit< tt) (omega arith) w

  pub sets_end : (l : ℕ) → 1 ≤ l → I ≤ i → Moves I (state_at l sets i m) (Some (stand l 2 0 false)) m
  unfolding pass_of
  sets_end zero h w = absurd (omega arith)
  sets_end (suc b) h w = goes I (state_at (suc b) sets i m) (suc b) 2 0 (rw (le-ltb i I w)) (lit< tt)

  sets_asks : (b : ℕ) (d g : Bool) → eqb (get_or m i 0) MD ≡ d → eqb (get_or m i 0) MG ≡ g → i < I → MCP ≤ get_or m i 0 → get_or m i 0 ≤ MG
      → Moves I (state_at (suc b) sets i m) None m
  sets_asks b true g p q w h k = rests I (state_at (suc b) sets i m) (in_desc (i / 4) b) (rw (lt-ltb i I w, p))
  sets_asks b false true p q w h k = rests I (state_at (suc b) sets i m) (in_grand (i / 16) b) (rw (lt-ltb i I w, p, q))
  sets_asks b false false p q w h k =
      let e : get_or m i 0 ≡ MCP = omega (arith, eqb-false (get_or m i 0) MD p, eqb-false (get_or m i 0) MG q, h, k) in
      rests I (state_at (suc b) sets i m) (bit_of i b) (rw (lt-ltb i I w, p, q, eq-eqb (get_or m i 0) MCP e))

  -- each of the three marks that the set pass asks at
  pub sets_rests : (l : ℕ) → 1 ≤ l → i < I → MCP ≤ get_or m i 0 → get_or m i 0 ≤ MG → Moves I (state_at l sets i m) None m
  sets_rests zero h w e k = absurd (omega arith)
  sets_rests (suc b) h w e k = sets_asks b (eqb (get_or m i 0) MD) (eqb (get_or m i 0) MG) refl refl w e k

  pub sets_goes : (l r : ℕ) → (min r I ≡ min (i + set_skip (get_or m i 0)) I) × (i < r) → 1 ≤ l → i < I → (get_or m i 0 ≡ MD → ⊥) → (get_or m i 0 ≡ MG → ⊥)
      → (get_or m i 0 ≡ MCP → ⊥) → Moves I (state_at l sets i m) (Some (stand l 1 r false)) m
  unfolding pass_of
  sets_goes zero r f h w d g e = absurd (omega arith)
  sets_goes (suc b) r f h w d g e =
      goes_behind I b 1 i (i + set_skip (get_or m i 0)) r m (rw (lt-ltb i I w, ne_eqb (get_or m i 0) MD d, ne_eqb (get_or m i 0) MG g, ne_eqb (get_or m i 0) MCP e)) f w (lit< tt)

  pub sets_over : (l j : ℕ) → Passed I sets (i + 4) m j m → 1 ≤ l → i < I → get_or m i 0 < MCP → Moves I (state_at l sets i m) (Some (stand l 1 j false)) m
  unfolding pass_of
  sets_over l j v h w e = goes_over I l 1 i (i + 4) j m m m (alone_one I i m w e) v h (lit< tt) (omega arith) w

  pub refining_end : (l : ℕ) → 1 ≤ l → I ≤ i → Moves I (state_at l refining i m) (Some (stand (l - 1) 0 0 false)) m
  unfolding pass_of
  refining_end zero h w = absurd (omega arith)
  refining_end (suc b) h w = let e : suc b - 1 ≡ b = omega arith in goes I (state_at (suc b) refining i m) (suc b - 1) 0 0 (rw (le-ltb i I w, e)) (lit< tt)

  pub refining_rests : (l : ℕ) → 1 ≤ l → i < I → get_or m i 0 ≡ MSP → Moves I (state_at l refining i m) None m
  refining_rests zero h w e = absurd (omega arith)
  refining_rests (suc b) h w e = rests I (state_at (suc b) refining i m) (bit_of i b) (rw (lt-ltb i I w, eq-eqb (get_or m i 0) MSP e))

  pub refining_goes : (l r : ℕ) (x : Bool) (n : List ℕ) → (min r I ≡ min (i + skip (get_or m i 0)) I) × (i < r) → IsNew m i x n
      → x ≡ false → 1 ≤ l → i < I → (get_or m i 0 ≡ MSP → ⊥) → Moves I (state_at l refining i m) (Some (stand l 2 r false)) n
  unfolding pass_of
  refining_goes zero r x n f u t h w d = absurd (omega arith)
  refining_goes (suc b) r x n f u t h w d =
      rw (new_same i m x n u t)
      (goes_behind I b 2 i (i + skip (get_or m i 0)) r m (rw (lt-ltb i I w, ne_eqb (get_or m i 0) MSP d, none_new i m x n u t)) f w (lit< tt))

  pub refining_over : (l j : ℕ) (x : Bool) (n o : List ℕ) → Passed I refining (i + 1) n j o → IsNew m i x n
      → x ≡ true → 1 ≤ l → i < I → Moves I (state_at l refining i m) (Some (stand l 2 j false)) o
  unfolding pass_of
  refining_over l j x n o v u t h w = goes_over I l 2 i (i + 1) j m n o (new_one i m x n u I t w) v h (lit< tt) (omega arith) w

-- ---- all looks

-- the scan rests where a sign is pending, and where no plane is left
rests_pending : (I : ℕ) (t : Stand) (m : List ℕ) → t.pending ≡ true → (l : ℕ) → t.left ≡ l → settle I (state_of t m) ≡ state_of t m
rests_pending I t m e zero q = settle_over I (state_of t m) (rw q)
rests_pending I t m e (suc b) q = settle_asks I (state_of t m) (sign_of t.place) (rw (q, e))

pub rests_either : (I : ℕ) (t : Stand) (m : List ℕ) → (t.pending ≡ true) ⊎ ((t.pending ≡ false) × (t.left ≡ 0)) → Moves I (state_of t m) None m
rests_either I t m (inl e) = (refl, rests_pending I t m e t.left refl)
rests_either I t m (inr e) = (refl, settle_over I (state_of t m) (rw e.1))

-- where it rests it stands as it is settled
pub rests_there : (I : ℕ) (t : Stand) (m : List ℕ) → t.pass < 3 → settle I (state_of t m) ≡ state_of t m → t ≡ stand_of (settle I (state_of t m))
rests_there I t m h e = ap {B = Stand} (λ (p : ℕ). stand t.left p t.place t.pending) (sym (pass_back t.pass h)) ∙ ap stand_of (sym e)
