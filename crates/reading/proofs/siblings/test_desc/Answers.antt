use mathlib.Core.Path.{◌≡◌, sym, ◌∙◌}
use Prim.Native.Nat.{◌*◌, ◌/◌, ◌%◌, ◌<◌}
use native.Mathlib.Omega.{arith}
use Rattle.bits.specs.Bits.{bit}
use Rattle.fours.specs.Tables.{in_byte}
use Rattle.reading.proofs.SiblingLaws.{end4_le}
use Rattle.reading.proofs.SiblingSteps.{stays, desc_none, desc_so, found_lt, minus_lt}
use Rattle.reading.proofs.siblings.test_desc.Goals as goal
use Rattle.reading.proofs.siblings.test_desc.Goals.{else-h-eq0-via-then-h-eq0+else-sweep-place, else-h-eq0-via-else-h-eq0}

pub returns-then-desc_clash : goal.returns-then-desc_clash
returns-then-desc_clash c = rw c.rests.ensures (stays _ _ _ _ _ _ _ _ _ _ _ c.requires.0 _)

pub returns-then-w-lt32768 : goal.returns-then-w-lt32768
returns-then-w-lt32768 c = rw c.goes.ensures (desc_none _ _ _ _ _ _ _ _ _ _ _ c.requires.0 _ c.window-w.ensures c.requires.5 c.requires.7 c.if-w-lt32768.true (sym c.desc_clash.ensures ∙ c.if-desc_clash.false))

pub returns-then-place-ne0 : goal.returns-then-place-ne0
returns-then-place-ne0 c = rw c.rests-then-place-ne0.ensures (stays _ _ _ _ _ _ _ _ _ _ _ c.requires.0 _)

pub returns-then-sweep-place : goal.returns-then-sweep-place
returns-then-sweep-place c = rw c.rests-then-sweep-place.ensures (stays _ _ _ _ _ _ _ _ _ _ _ c.requires.0 _)

pub found_four-requires : goal.found_four-requires
found_four-requires c = (omega (arith, c.requires.0.below, c.requires.0.in_values), c.requires.3, c.requires.0.plane, found_lt (bit 15) (in_byte (c.window-w.result / 128 % 256)) _ c.listen-h.ensures.1, minus_lt (bit 15) (in_byte (c.window-w.result / 128 % 256)) _ c.listen-h.ensures.2)

pub overflow_cast-h : goal.overflow_cast-h
overflow_cast-h c = record { fits = omega (arith, found_lt (bit 15) (in_byte (c.window-w.result / 128 % 256)) c.listen-h.result.found c.listen-h.ensures.1) }

pub overflow_add-n : goal.overflow_add-n
overflow_add-n c = record { fits = omega (arith, c.requires.5, c.requires.0.margin) }

pub overflow_add-n-3 : goal.overflow_add-n-3
overflow_add-n-3 c = record { fits = omega (arith, end4_le (λ j. bit 15 j) (λ p. in_byte (c.window-w.result / 128 % 256) p), c.listen-h.ensures.0, c.requires.5, c.requires.0.margin) }

pub overflow_add-place-2 : goal.overflow_add-place-2
overflow_add-place-2 c = record { fits = omega (arith, c.requires.0.below, c.requires.0.near) }

pub returns : goal.returns
returns c =
    let some : c.listen-h.result.found ≡ 0 → 4 * c.args.place < c.args.sweep.frame.all =
    elim c.else-h-eq0.branch [ else-h-eq0-via-then-h-eq0+else-sweep-place w ↦ λ z. w.if-sweep-place.false | else-h-eq0-via-else-h-eq0 w ↦ λ z. absurd (w.if-h-eq0.false z) ] in
    rw c.goes-2.ensures (desc_so _ _ _ _ _ _ _ _ _ _ _ c.requires.0 c.requires.7 _ c.window-w.ensures c.requires.5 c.if-w-lt32768.false c.requires.6 c.if-place-ne0.false _ _ _ _ c.listen-h.ensures.0 c.listen-h.ensures.1 c.listen-h.ensures.2 some c.spread.ensures _ _ _ c.split_desc.ensures c.set_word.ensures c.found_four.ensures)
