-- A decoder that stops at the clash: its verdict on a list of bits is the one that document 01 means, over arrays of bits.
use mathlib.Core.Path.{◌≡◌, refl, sym, subst, ◌∙◌}
use mathlib.Core.Bool.{Bool, true, false, not, ◌&&◌, true≢false, false≢true}
use mathlib.Core.Option.{Option, none, some}
use mathlib.Core.List.{List, [], ◌∷◌, ◌++◌, append-nil, append_assoc}
use Prim.Native.Nat.{ℕ, zero, suc, ◌+◌, ◌-◌, ◌^◌, ◌≤◌}
use native.Mathlib.Omega.{arith}
use lib.ListN.{length, get_or, length-append}
use lib.Dec.{ltb, eqb}
use borrow.Author.Tests.{ltb-true, lt-ltb, eqb-true}
use Rattle.nls.specs.Judging.{Verdict, taken, contradiction, beyond}
use Rattle.nls.specs.Scan.{State, Question, Pass, pixels, sets, refining, look_at, look_sets, ask, asked, next, reach, start}
use Rattle.nls.proofs.Tiled.{Tiled}
use Rattle.nls.proofs.Arrays.{Bits, told, Fit}
use Rattle.nls.proofs.Machine.Run.{fit_prefix, reach_append}
use Rattle.nls.proofs.Reading.Know.{least}
use Rattle.nls.proofs.Machine.Steps.{Good_at}
use Rattle.nls.proofs.Reading.Told.{fam, run}
use Rattle.nls.proofs.Judging.Clash.{Valid, Clash, last_child, last_grand, last_desc, last_root, clash_child, clash_grand, clash_desc, clash_root}
use Rattle.nls.proofs.Machine.Start.{nothing, good_start}
use Rattle.nls.proofs.Judging.Refuse.{Clash_at, Clashes, accepts}

-- the verdict on the bits u from the settled state s on, by a test for the clash that may look at the number of bits used
unfoldable pub decode : ℕ → (ℕ → State → Bool) → ℕ → State → List Bool → Verdict
decode I cl used s [] = taken
decode I cl used s (a ∷ u) = elim (ask I s) [
  | none ↦ beyond used
  | some q ↦ elim (not a && cl used s) [ true ↦ contradiction used | false ↦ decode I cl (used + 1) (next I s a) u ]
]

module _ (N : ℕ) {D : ℕ} (P : ℕ) (sz : Tiled D (4 ^ N)) where
  abbrev I : ℕ
  I = 4 ^ N

  abbrev S : State
  S = start I D P

  abbrev pub Starts : Bits → List Bool → Type 0
  Starts A u = Fit N A (start I D P) u

  -- some array of P planes has a stream that begins with u
  abbrev pub Some : List Bool → Type 0
  Some u = (A : Bits) × Valid I P A × Starts A u

  abbrev Bad : State → Type 0
  Bad s = Clashes N P sz s

  fit_split : (A : Bits) (s : State) (u v : List Bool) → Fit N A s (u ++ v) → Fit N A (reach (4 ^ N) s u) v
  unfolding reach
  fit_split A s [] v f = f
  fit_split A s (a ∷ u) v f = fit_split A (next I s a) u v f.1

  -- at a clash every array that fits answers 1
  module _ (A k : Bits) (va : Valid I P A) where
    sound_sets : (b i : ℕ) (m : List ℕ) (x d g c : Bool) → ltb i I ≡ x → eqb (get_or m i 0) 5 ≡ d → eqb (get_or m i 0) 6 ≡ g → eqb (get_or m i 0) 4 ≡ c
        → Good_at sz P (fam N A k) (suc b) sets i false m → Clash D I P b i m → told N A (asked I (look_sets b i m x d g c)) false → ⊥
    sound_sets b i m false d g c ex ed eg ec z n t = t
    sound_sets b i m true false false false ex ed eg ec z n t = t
    sound_sets b i m true true g c ex ed eg ec z (last_child a n1 n2 n3) t = omega (arith, eqb-true (get_or m i 0) 5 ed)
    sound_sets b i m true true g c ex ed eg ec z (last_grand a n1) t = omega (arith, eqb-true (get_or m i 0) 5 ed)
    sound_sets b i m true true g c ex ed eg ec z (last_desc a n1 n2 n3) t = true≢false (sym (clash_desc N P sz A k va b i m z.1.0 (ltb-true i I ex) z.0 z.1.1 a n1 n2 n3) ∙ t)
    sound_sets b i m true true g c ex ed eg ec z (last_root a n1 n2 n3 n4) t = true≢false (sym (clash_root N P sz A k va b i m z.1.0 (ltb-true i I ex) z.0 z.1.1 a n1 n2 n3 n4) ∙ t)
    sound_sets b i m true false true c ex ed eg ec z (last_child a n1 n2 n3) t = omega (arith, eqb-true (get_or m i 0) 6 eg)
    sound_sets b i m true false true c ex ed eg ec z (last_grand a n1) t = true≢false (sym (clash_grand N P sz A k va b i m z.1.0 (ltb-true i I ex) z.0 z.1.1 a n1) ∙ t)
    sound_sets b i m true false true c ex ed eg ec z (last_desc a n1 n2 n3) t = omega (arith, eqb-true (get_or m i 0) 6 eg)
    sound_sets b i m true false true c ex ed eg ec z (last_root a n1 n2 n3 n4) t = omega (arith, eqb-true (get_or m i 0) 6 eg)
    sound_sets b i m true false false true ex ed eg ec z (last_child a n1 n2 n3) t = true≢false (sym (clash_child N P sz A k va b i m z.1.0 (ltb-true i I ex) z.0 z.1.1 a n1 n2 n3) ∙ t)
    sound_sets b i m true false false true ex ed eg ec z (last_grand a n1) t = omega (arith, eqb-true (get_or m i 0) 4 ec)
    sound_sets b i m true false false true ex ed eg ec z (last_desc a n1 n2 n3) t = omega (arith, eqb-true (get_or m i 0) 4 ec)
    sound_sets b i m true false false true ex ed eg ec z (last_root a n1 n2 n3 n4) t = omega (arith, eqb-true (get_or m i 0) 4 ec)

    sound_at : (l : ℕ) (p : Pass) (i : ℕ) (s : Bool) (m : List ℕ) → Good_at sz P (fam N A k) l p i s m → Clash_at N P sz l p i s m → told N A (asked I (look_at I l p i s m)) false → ⊥
    sound_at zero p i s m z n t = n
    sound_at (suc b) pixels i s m z n t = n
    sound_at (suc b) refining i s m z n t = n
    sound_at (suc b) sets i true m z n t = n
    sound_at (suc b) sets i false m z n t = sound_sets b i m (ltb i I) (eqb (get_or m i 0) 5) (eqb (get_or m i 0) 6) (eqb (get_or m i 0) 4) refl refl refl refl z n t

  pub refuses : (u : List Bool) → Bad (reach (4 ^ N) S u) → Some (u ++ (false ∷ [])) → ⊥
  unfolding ask
  refuses u n w =
      let f : Starts w.0 u = fit_prefix N w.0 S u (false ∷ []) w.2 in
      let r : State = reach (4 ^ N) S u in
      sound_at w.0 (least N S u nothing) w.1 r.left r.pass r.place r.pending r.marks
      (run N P sz w.0 nothing S u (good_start sz P (fam N w.0 nothing) (λ j z. false≢true z.1)) f) n
      (fit_split w.0 S u (false ∷ []) w.2).0

  -- the test is the clash, after any bits that some array fits
  pub record Right (cl : ℕ → State → Bool) : Type 0 where
    pub to : (u : List Bool) → Some u → cl (length u) (reach (4 ^ N) S u) ≡ true → Bad (reach (4 ^ N) S u)
    pub of : (u : List Bool) → Some u → Bad (reach (4 ^ N) S u) → cl (length u) (reach (4 ^ N) S u) ≡ true

  -- what the verdict means, for the whole list of bits
  abbrev pub Means : List Bool → Verdict → Type 0
  Means v taken = Some v
  Means v (contradiction n) = (u : List Bool) × (a : Bool) × (r : List Bool) × (v ≡ u ++ (a ∷ r)) × (n ≡ length u) × Some u × (Some (u ++ (a ∷ [])) → ⊥) × ((q : Question) × (ask I (reach (4 ^ N) S u) ≡ some q))
  Means v (beyond n) = (u : List Bool) × (a : Bool) × (r : List Bool) × (v ≡ u ++ (a ∷ r)) × (n ≡ length u) × Some u × (ask I (reach (4 ^ N) S u) ≡ none)

  decode_from : (cl : ℕ → State → Bool) → Right cl → (v u r : List Bool) → v ≡ u ++ r → Some u → Means v (decode I cl (length u) (reach (4 ^ N) S u) r)
  unfolding decode
  decode_from cl rt v u [] e w = subst Some (sym (e ∙ append-nil u)) w
  decode_from cl rt v u (a ∷ r) e w = go (ask I (reach (4 ^ N) S u)) refl (decode_from cl rt v (u ++ (a ∷ [])) r (e ∙ sym (append_assoc u (a ∷ []) r)))
    where
      len : length (u ++ (a ∷ [])) ≡ length u + 1
      len = length-append {A = Bool} u (a ∷ [])

      step : reach (4 ^ N) S (u ++ (a ∷ [])) ≡ next I (reach (4 ^ N) S u) a
      step = reach_append N S u (a ∷ []) ∙ (unfold reach in refl)

      go : (o : Option Question) → ask I (reach (4 ^ N) S u) ≡ o → (Some (u ++ (a ∷ [])) → Means v (decode I cl (length (u ++ (a ∷ []))) (reach (4 ^ N) S (u ++ (a ∷ []))) r))
          → Means v (elim o as (λ _. Verdict) [ none ↦ beyond (length u) | some q ↦ elim (not a && cl (length u) (reach (4 ^ N) S u)) as (λ _. Verdict) [ true ↦ contradiction (length u) | false ↦ decode I cl (length u + 1) (next I (reach (4 ^ N) S u) a) r ] ])
      go none eo ih = (u, a, r, e, refl, w, eo)
      go (some q) eo ih = pick a (cl (length u) (reach (4 ^ N) S u)) refl refl
        where
          more : Some (u ++ (a ∷ [])) → Means v (decode I cl (length u + 1) (next I (reach (4 ^ N) S u) a) r)
          more x = subst (λ (n : ℕ). Means v (decode I cl n (next I (reach (4 ^ N) S u) a) r)) len (subst (λ (s : State). Means v (decode I cl (length (u ++ (a ∷ []))) s r)) step (ih x))

          pick : (x y : Bool) → a ≡ x → cl (length u) (reach (4 ^ N) S u) ≡ y → Means v (elim (not x && y) as (λ _. Verdict) [ true ↦ contradiction (length u) | false ↦ decode I cl (length u + 1) (next I (reach (4 ^ N) S u) a) r ])
          pick true y ea ey = more (accepts N P sz w.0 w.1 u w.2 q eo a (λ z b. true≢false (sym ea ∙ z)))
          pick false true ea ey = (u, a, r, e, refl, w, (λ s. refuses u (rt.to u w ey) (subst (λ (x : Bool). Some (u ++ (x ∷ []))) ea s)), (q, eo))
          pick false false ea ey = more (accepts N P sz w.0 w.1 u w.2 q eo a (λ z b. true≢false (sym (rt.of u w b) ∙ ey)))

  -- an array of P planes
  first_one : 1 ≤ P → Some []
  first_one h = (record { has = λ i b. ltb b P; neg = λ i. false }, record { cap = λ j e y. ltb-true e P y; top = (0, P - 1, omega arith, omega arith, lt-ltb (P - 1) P (omega arith)) }, tt)

  pub decode_means : (cl : ℕ → State → Bool) → Right cl → 1 ≤ P → (v : List Bool) → Means v (decode I cl 0 S v)
  unfolding reach
  decode_means cl rt h v = decode_from cl rt v [] v refl (first_one h)
