-- A smaller array fits the same answers, if each question that was answered 1 still has a member.
use mathlib.Core.Path.{◌≡◌, refl, sym, subst, ◌∙◌}
use mathlib.Core.Bool.{Bool, true, false, ◌&&◌, true≢false}
use mathlib.Core.Logic.{◌⊎◌, inl, inr}
use mathlib.Core.Option.{Option, none, some}
use mathlib.Core.List.{List, [], ◌∷◌}
use Prim.Native.Nat.{ℕ, ◌/◌, ◌^◌}
use lib.Dec.{ltb}
use Rattle.nls.specs.Scan.{Question, bit_of, sign_of, in_desc, in_grand, State, ask, next}
use Rattle.nls.proofs.Booleans.{not_true_false}
use Rattle.nls.proofs.Arrays.{below, Bits, inside, ans, ◌⊑◌, told, any_mono, Fit}

module _ (N : ℕ) where
  mono : (B W : Bits) → B ⊑ W → ((i : ℕ) → B.neg i ≡ W.neg i) → (q : Question) → ans N B q ≡ true → ans N W q ≡ true
  unfolding ◌⊑◌ ans inside
  mono B W l n (bit_of i b) h = l i b h
  mono B W l n (sign_of i) h = sym (n i) ∙ h
  mono B W l n (in_desc g b) h = any_mono (4 ^ N) (λ j. ltb j (4 ^ N) && below N g j) (λ j. B.has j b) (λ j. W.has j b) (λ j z. l j b z) h
  mono B W l n (in_grand g b) h = any_mono (4 ^ N) (λ j. ltb j (4 ^ N) && below N g (j / 4)) (λ j. B.has j b) (λ j. W.has j b) (λ j z. l j b z) h

  -- q was answered 1
  abbrev pub Owed : State → List Bool → Question → Type 0
  Owed s [] q = ⊥
  Owed s (a ∷ u) q = ((a ≡ true) × (ask (4 ^ N) s ≡ some q)) ⊎ Owed (next (4 ^ N) s a) u q

  pub owed_true : (W : Bits) (s : State) (u : List Bool) → Fit N W s u → (q : Question) → Owed s u q → ans N W q ≡ true
  owed_true W s [] f q o = absurd o
  owed_true W s (a ∷ u) f q (inl o) = subst (λ (x : Option Question). told N W x a) o.1 f.0 ∙ o.0
  owed_true W s (a ∷ u) f q (inr o) = owed_true W (next (4 ^ N) s a) u f.1 q o

  pub change : (B W : Bits) → B ⊑ W → ((i : ℕ) → B.neg i ≡ W.neg i) → (s : State) (u : List Bool) → Fit N W s u → ((q : Question) → Owed s u q → ans N B q ≡ true) → Fit N B s u
  change B W l n s [] f o = tt
  change B W l n s (a ∷ u) f o = (go (ask (4 ^ N) s) refl a refl f.0, change B W l n (next (4 ^ N) s a) u f.1 (λ q z. o q (inr z)))
    where
      go : (x : Option Question) → ask (4 ^ N) s ≡ x → (c : Bool) → a ≡ c → told N W x a → told N B x a
      go none e c ec t = t
      go (some q) e true ec t = o q (inl (ec, e)) ∙ sym ec
      go (some q) e false ec t = not_true_false (ans N B q) (λ z. true≢false (sym (mono B W l n q z) ∙ t ∙ ec)) ∙ sym ec
