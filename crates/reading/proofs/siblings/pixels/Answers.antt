use Prim.Native.Nat.{◌/◌}
use native.Mathlib.Omega.{arith}
use lib.ListN.{get_or}
use Rattle.bits.specs.Bits.{bit}
use Rattle.marking.proofs.Laws.{skip_in}
use Rattle.fours.specs.Tables.{in_byte}
use Rattle.fours.proofs.Laws.{which_lt}
use Rattle.reading.proofs.SiblingLaws.{end4_le}
use Rattle.reading.proofs.SiblingSteps.{word_fits, found_lt, minus_lt, stays, skips_pixel, no_pixels_so, pixels_so}
use Rattle.reading.proofs.siblings.pixels.Goals as goal

pub overflow_add-next : goal.overflow_add-next
overflow_add-next c = omega (arith, skip_in (get_or c.args.marks.now c.args.place 0), c.skip.ensures, c.requires.0.near, c.requires.0.below)

pub returns-then-mark-gt-MCP : goal.returns-then-mark-gt-MCP
returns-then-mark-gt-MCP c = rw c.goes.ensures (skips_pixel _ _ _ _ _ _ _ _ _ _ _ c.requires.0 _ c.if-mark-gt-MCP.true c.skip.ensures)

pub returns-then-sweep-n : goal.returns-then-sweep-n
returns-then-sweep-n c = rw c.rests.ensures (stays _ _ _ _ _ _ _ _ _ _ _ c.requires.0 _)

pub returns-then-k-eq0 : goal.returns-then-k-eq0
returns-then-k-eq0 c = rw c.goes-then-k-eq0.ensures (no_pixels_so _ _ _ _ _ _ _ _ _ _ _ c.requires.0 _ c.word_at-w.ensures.value c.word_at-w.ensures.four_bytes _ c.low.ensures c.if-not-low.false-raw _ c.ones-k.ensures c.if-k-eq0.true)

pub listen-h-requires : goal.listen-h-requires
listen-h-requires c = (c.requires.1, c.requires.2, which_lt 1 c.word_at-w.result _ c.ones-k.ensures, omega (arith, c.window.ensures.small))

pub found_four-requires : goal.found_four-requires
found_four-requires c = (omega (arith, c.requires.0.below, c.requires.0.in_values), c.requires.3, c.requires.0.plane, found_lt (bit c.ones-k.result) (in_byte (c.window.result / 256)) _ c.listen-h.ensures.1, minus_lt (bit c.ones-k.result) (in_byte (c.window.result / 256)) _ c.listen-h.ensures.2)

pub overflow_cast-h : goal.overflow_cast-h
overflow_cast-h c = record { fits = omega (arith, found_lt (bit c.ones-k.result) (in_byte (c.window.result / 256)) c.listen-h.result.found c.listen-h.ensures.1) }

pub overflow_add-w : goal.overflow_add-w
overflow_add-w c = record { fits = word_fits _ _ c.args.sweep.frame.coarsest c.args.sweep.frame.top _ _ _ _ _ _ _ c.requires.0 _ c.word_at-w.ensures.value c.word_at-w.ensures.four_bytes _ c.low.ensures c.if-not-low.false-raw c.listen-h.result.found _ c.spread.ensures }

pub overflow_add-n : goal.overflow_add-n
overflow_add-n c = record { fits = omega (arith, end4_le (λ j. bit c.ones-k.result j) (λ p. in_byte (c.window.result / 256) p), c.listen-h.ensures.0, c.if-sweep-n.false, c.requires.0.margin) }

pub overflow_add-place-2 : goal.overflow_add-place-2
overflow_add-place-2 c = omega (arith, c.requires.0.below, c.requires.0.near)

pub returns : goal.returns
returns c = rw c.goes-2.ensures (pixels_so _ _ _ _ _ _ _ _ _ _ _ c.requires.0 _ c.word_at-w.ensures.value c.word_at-w.ensures.four_bytes _ c.low.ensures c.if-not-low.false-raw _ c.ones-k.ensures _ c.window.ensures (omega (arith, c.if-sweep-n.false)) _ _ _ _ c.listen-h.ensures.0 c.listen-h.ensures.1 c.listen-h.ensures.2 c.spread.ensures _ _ c.set_word.ensures c.found_four.ensures)
