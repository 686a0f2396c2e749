-- The samples hold: the files' by computation.
use mathlib.Core.Path.{refl}
use mathlib.Core.List.{flat_map}
use Rattle.sizes.specs.Tables.{table}
use Rattle.bits.specs.Bits.{bit, or_all, packed, number}
use Rattle.coef.specs.Coef.{planes_of, largest, digits}
use Rattle.tree.specs.Tree.{children, descendants, desc, grand}
use Rattle.tree.specs.Summaries.{desc_or, grand_or}
use Rattle.nls.specs.Marks.{skip, set_skip, push_from, push_roots, start_marks}
use Rattle.nls.specs.Scan.{silently, settle, ask, next, start}
use Rattle.nls.specs.Stream.{answer, answers, stream}
use Rattle.nls.specs.Samples.{Holds, Each, linear, pictured}
use Rattle.nls.proofs.Samples as scan
use Rattle.txp.specs.Header.{header_bytes}
use Rattle.txp.specs.Samples.{file, picture_file, samples}

file_holds : Holds file
unfolding linear table bit packed number planes_of largest digits children descendants desc grand flat_map or_all desc_or grand_or
    skip set_skip push_from push_roots start_marks silently settle ask next start answer answers stream header_bytes
file_holds = refl

picture_holds : Holds picture_file
unfolding pictured table bit packed number planes_of largest digits children descendants desc grand flat_map or_all desc_or grand_or
    skip set_skip push_from push_roots start_marks silently settle ask next start answer answers stream header_bytes
picture_holds = refl

pub all_samples : Each samples
all_samples = (file_holds, (picture_holds, scan.all_samples))
