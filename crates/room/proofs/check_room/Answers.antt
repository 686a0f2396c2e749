use mathlib.Core.Path.{◌≡◌, sym, ap, ◌∙◌}
use Prim.Native.Nat.{ℕ, ◌+◌, min}
use native.Mathlib.Omega.{arith}
use lib.Dec.{leb}
use Rattle.sizes.specs.Sizes.{all_of}
use Rattle.bits.specs.Bits.{bytes_for}
use Rattle.nls.specs.Stream.{worst_body}
use Rattle.room.proofs.Laws.{no_marks, no_output, room_well}
use Rattle.room.proofs.check_room.Goals as goal

pub returns-then-marks-all_of : goal.returns-then-marks-all_of
returns-then-marks-all_of c =
    let all_so : c.all_of.result ≡ all_of c.args.n = c.all_of.ensures ∙ rw c.requires.0 in
    let a = c.args in
    no_marks a.n a.l a.p a.marks a.out a.offset a.budget (omega (arith, c.if-marks-all_of.true, all_so))

pub worst_of-requires : goal.worst_of-requires
worst_of-requires c = c.requires

pub returns-then-not-has_room : goal.returns-then-not-has_room
returns-then-not-has_room c =
    let all_so : c.all_of.result ≡ all_of c.args.n = c.all_of.ensures ∙ rw c.requires.0 in
    let room_so : let a = c.args in c.has_room.result ≡ leb (a.offset + bytes_for (min a.budget (worst_body a.n a.l a.p))) a.out = let a = c.args in c.has_room.ensures ∙ ap (λ (x : ℕ). leb (a.offset + bytes_for x) a.out) (c.min.ensures ∙ ap (λ (x : ℕ). min a.budget x) c.worst_of.ensures) in
    let a = c.args in
    no_output a.n a.l a.p a.marks a.out a.offset a.budget (omega (arith, c.if-marks-all_of.false, all_so))
    (sym (room_so) ∙ c.if-not-has_room.true)

pub returns : goal.returns
returns c =
    let all_so : c.all_of.result ≡ all_of c.args.n = c.all_of.ensures ∙ rw c.requires.0 in
    let room_so : let a = c.args in c.has_room.result ≡ leb (a.offset + bytes_for (min a.budget (worst_body a.n a.l a.p))) a.out = let a = c.args in c.has_room.ensures ∙ ap (λ (x : ℕ). leb (a.offset + bytes_for x) a.out) (c.min.ensures ∙ ap (λ (x : ℕ). min a.budget x) c.worst_of.ensures) in
    let a = c.args in
    room_well a.n a.l a.p a.marks a.out a.offset a.budget (omega (arith, c.if-marks-all_of.false, all_so))
    (sym (room_so) ∙ c.if-not-has_room.false)
