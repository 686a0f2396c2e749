-- Words of inner contracts, which no promise to a caller uses: a text put into a buffer, and a picture that can be put.
use Rattle.std.specs.Prelude.{ℕ, ◌+◌, ◌≤◌, ◌≡◌, true, List, ℤ, length}
use Rattle.std.proofs.lemmas.List.Edits.{sets}
use Rattle.sizes.specs.Sizes.{all_of, side_fits, levels_fit}
use Rattle.coef.specs.Coef.{first_over}
use Rattle.show.specs.Text.{most_shown_n}

-- a text put from entry `at` of `before` on, as far as there is room, leaves `after`; it ends before entry `end`
pub record Puts (before : List ℕ) (at : ℕ) (text after : List ℕ) (end : ℕ) : Type 0 where
  pub stored : after ≡ sets before at text
  pub ends : end ≡ at + length text

-- sizes that are shown, and a value within the limit for each place
pub record Drawn (N L : ℕ) (A : List ℤ) : Type 0 where
  pub side : side_fits N ≡ true
  pub levels : levels_fit N L ≡ true
  pub small : N ≤ most_shown_n
  pub whole : length A ≡ all_of N
  pub limited : first_over A ≡ length A
