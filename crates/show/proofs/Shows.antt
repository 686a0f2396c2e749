-- A text that is put is what the call answers, by what it is the text of.
use mathlib.Core.Path.{◌≡◌, refl, sym, subst}
use mathlib.Core.Bool.{Bool, true, false}
use mathlib.Core.List.{List, [], ◌∷◌}
use Prim.Native.Nat.{ℕ}
use native.Mathlib.Omega.{arith}
use Rattle.sizes.specs.Sizes.{all_of}
use Rattle.nls.specs.Reading.{midpoint}
use Rattle.decoder.specs.Body.{Tables, zeros}
use Rattle.txp.specs.Calls.{Decodes, DecodeAnswer}
use Rattle.show.specs.Text.{text_of, answer_lines, most_shown_n, too_large, too_large_line, ShownIf, Rendered}
use Rattle.show.specs.Putting.{Puts}

module _ (file before after : List ℕ) (r : ℕ) where
  pub shows_large : too_large file ≡ true → Puts before 0 (text_of (too_large_line ∷ [])) after r → Rendered file before after r
  shows_large e a =
      record {
        text = text_of (too_large_line ∷ []);
        shown = subst (λ (t : Bool). ShownIf t file (text_of (too_large_line ∷ []))) (sym e) refl;
        whole = omega (arith, a.ends);
        stored = a.stored;
      }

  pub shows_answer : (said : DecodeAnswer) (left : Tables) → too_large file ≡ false → Decodes midpoint file (zeros (all_of most_shown_n)) said left
      → Puts before 0 (text_of (answer_lines said left.values)) after r → Rendered file before after r
  shows_answer said left e q a =
      record {
        text = text_of (answer_lines said left.values);
        shown = subst (λ (t : Bool). ShownIf t file (text_of (answer_lines said left.values))) (sym e) (record { said = said; left = left; decodes = q; shows = refl });
        whole = omega (arith, a.ends);
        stored = a.stored;
      }
