-- A file has one text; so the contract of the public function decides its outcome: the answer, and the lent buffer, which is the second parameter.
use mathlib.Core.Path.{◌≡◌, sym, ap, ◌∙◌}
use mathlib.Core.Bool.{Bool, true, false}
use mathlib.Core.List.{List}
use Prim.Native.Nat.{ℕ}
use lib.ListN.{length}
use lib.Seq.{sets}
use Rattle.refusals.proofs.Decided.{OneOutcome}
use Rattle.sizes.specs.Sizes.{all_of}
use Rattle.nls.specs.Reading.{midpoint}
use Rattle.decoder.specs.Body.{Tables, zeros}
use Rattle.txp.proofs.Decided.{decodes_one}
use Rattle.txp.specs.Calls.{DecodeAnswer}
use Rattle.show.specs.Text.{text_of, answer_lines, most_shown_n, too_large, ShownIf, Shown}
use Rattle.show.proofs.render.Reads as render

by_size : (file text text' : List ℕ) (large : Bool) → ShownIf large file text → ShownIf large file text' → text ≡ text'
by_size file text text' true p q = p ∙ sym q
by_size file text text' false p q =
    let one = decodes_one midpoint file (zeros (all_of most_shown_n)) p.said q.said p.left q.left p.decodes q.decodes in
    p.shows
    ∙ ap (λ (a : DecodeAnswer). text_of (answer_lines a p.left.values)) one.0
    ∙ ap (λ (t : Tables). text_of (answer_lines q.said t.values)) one.1
    ∙ sym q.shows

-- two texts that are shown for one file are equal
pub shown_one : (file text text' : List ℕ) → Shown file text → Shown file text' → text ≡ text'
shown_one file text text' p q = by_size file text text' (too_large file) p q

pub render_decided : OneOutcome {Lent = List ℕ} render.Learnt (λ k s. s.1.0.now)
render_decided k args r r' s s' p q =
    let one : p.0.text ≡ q.0.text = shown_one args.0.now p.0.text q.0.text p.0.shown q.0.shown in
    (p.0.whole ∙ ap length one ∙ sym q.0.whole, p.0.stored ∙ ap (λ (t : List ℕ). sets args.1.0.now 0 t) one ∙ sym q.0.stored)
