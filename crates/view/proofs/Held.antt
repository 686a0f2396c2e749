-- What a `BitView` owns, and what its three fields own, one from the other. The walks cite this: those that take a view apart, that make one, and that put another number into one.
use mathlib.Core.Path.{◌≡◌, refl}
use Prim.Native.Nat.{ℕ, ◌<◌, ◌^◌}
use mathlib.Core.List.{List, [], ◌∷◌}
use lib.ListN.{length}
use seplogic.Ra.Ura.{Ura}
use mir.Syntax.{named, w64}
use mir.Val.{Val, vint}
use base.Logic.{ent, sep}
use base.Fml.{Fml}
use types.Logic.{Logic, sem}
use types.Kit.{‵, ◌⊛◌, given, ◌$◌, ◌∵◌, !, qed, by, move, use1, split, learn, done}
use denote.RattleType.{owns}
use denote.Laws.{Is}
use denote.Plain.{uint_Makes}
use denote.Builtin.{u8, usize}
use denote.Ref.{Bor, NamedLft}
use denote.Slice.{slice_val, ShrSlice}
use denote.Steps.{owned}
use denote.Struct.Laws as LL
use denote.Struct.Rest.{own_open, own_shut, own_put}
use Rattle.view.specs.declared.BitView.{BitView}
use Rattle.view.specs.contracts.BitView as T
use Rattle.view.proofs.BitView.TheLaws as T'

-- the fields, and their machine values
abbrev pub Fields : Type 0
Fields = Bor (List ℕ) × (ℕ × (ℕ × Unit {0}))

abbrev pub fields : BitView → Fields
fields d = (d.body, (d.at, (d.declared, tt)))

abbrev pub slice : Bor (List ℕ) → Val
slice s = slice_val s.ref_ptr (length s.now)

abbrev pub vals : BitView → List Val × (List Val × (List Val × Unit {0}))
vals d = (slice d.body ∷ [], (vint w64 d.at ∷ [], (vint w64 d.declared ∷ [], tt)))

-- the view at another number
abbrev pub put : BitView → ℕ → BitView
put d n = record { body = d.body; at = n; declared = d.declared }

-- what a view owns, and what its fields own
abbrev pub Own : NamedLft → BitView → Fml
Own α d = (T.the_row α).own_val d (T'.lowered d ∷ [])

abbrev pub Parts : NamedLft → BitView → Fml
Parts α d = owns (ShrSlice (named 0) α.lft u8 ∷ usize ∷ usize ∷ []) (fields d) (vals d)

module _ {M : Type 1} {𝓤 : Ura M} (𝓛 : Logic 𝓤) (α : NamedLft) (d : BitView) where
  -- a view is Copy
  pub twice : ent 𝓤 (sem 𝓛 (Own α d)) (sep 𝓤 (sem 𝓛 (Own α d)) (sem 𝓛 (Own α d)))
  twice = (LL.copy (T.the_type α) (T'.the_copy α) 𝓛).twice d (T'.lowered d ∷ [])

  -- it is taken apart, and kept
  pub apart : ent 𝓤 (sem 𝓛 (Own α d)) (sep 𝓤 (sem 𝓛 (Parts α d)) (sem 𝓛 (Own α d)))
  apart =
      qed 𝓛 (‵ (Own α d) ∷ []) ∵ use1 𝓛 (‵ (Own α d) ⊛ ‵ (Own α d)) twice $ split ! $
      use1 𝓛 (given (T'.lowered d ∷ [] ≡ T'.lowered d ∷ []) (‵ (Parts α d))) (own_open 𝓛 (T.the_type α) (T'.the_laws α) (fields d) (T'.lowered d)) $ learn ! (λ _. done !)

  -- it is made of its fields
  pub together : ent 𝓤 (sem 𝓛 (Parts α d)) (sem 𝓛 (Own α d))
  together = own_shut 𝓛 (T.the_type α) (T'.the_laws α) (fields d)

  -- it is put at another number
  pub at_number : (n : ℕ) → n < 2 ^ 64 → ent 𝓤 (sem 𝓛 (Own α d)) (sem 𝓛 (Own α (put d n)))
  at_number n fits =
      qed 𝓛 (‵ (Own α d) ∷ []) ∵ owned ! usize (Is usize) (uint_Makes 𝓛 w64) n _ (refl, fits) $ move ! (1 ∷ 0 ∷ []) $
      by ! (own_put 𝓛 (T.the_type α) (T'.the_laws α) 1 (fields d) n (T'.lowered d))
