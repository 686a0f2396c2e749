-- What the inner functions count; no public contract names it.
use Rattle.std.specs.Prelude.{ℕ, ◌+◌, ◌*◌, ◌-◌, ◌^◌, ◌<◌, ◌≤◌, ◌≡◌, Bool, true, ◌&&◌, List, leb, ltb, ℤ, length, get_or}
use Rattle.sizes.specs.Sizes.{all_of, most_n, side_fits, levels_fit}
use Rattle.sizes.specs.Tables.{table}
use Rattle.coef.specs.Coef.{mag_at}
use Rattle.tree.specs.Summaries.{desc_table, grand_table}
use Rattle.nls.specs.Parts.{count_to}
use Rattle.figures.specs.declared.Figures.{Figures}
use Rattle.figures.specs.declared.Reach.{Reach}
use Rattle.figures.specs.declared.FourTallies.{FourTallies}

-- sizes in range, a value for each place, and both tables filled
pub record Filled (N L : ℕ) (A : List ℤ) (desc grand : List ℕ) : Type 0 where
  pub side : side_fits N ≡ true
  pub levels : levels_fit N L ≡ true
  pub whole : length A ≡ all_of N
  pub descs : desc ≡ desc_table N L A
  pub grands : grand ≡ grand_table N L A

-- how many reach a level: of DESC, of its entries that have one in GRAND, of GRAND, and of the magnitudes
abbrev pub reach_of : ℕ → List ℤ → List ℕ → List ℕ → Reach
reach_of level A desc grand =
    record {
      descs = count_to (length desc) (λ i. leb level (get_or desc i 0));
      inner = count_to (length grand) (λ i. leb level (get_or desc i 0));
      grands = count_to (length grand) (λ i. leb level (get_or grand i 0));
      large = count_to (length A) (λ i. leb level (mag_at A i));
    }

-- the figures of a plane from what reaches its level and what reaches twice that, where no more reaches the second
abbrev pub figures_between : ℕ → Reach → Reach → Figures
figures_between least here above =
    record {
      parts = least + 3 * here.descs + 3 * here.grands + here.inner;
      splits = here.descs + here.grands - (above.descs + above.grands);
      bits = least + 3 * here.descs + 3 * here.grands + here.inner + (here.descs + here.grands - (above.descs + above.grands)) + (here.large - above.large);
      found = here.large - above.large;
    }

pub record Between (least : ℕ) (here above : Reach) : Type 0 where
  pub least_most : least ≤ 2 * all_of most_n
  pub descs_most : here.descs ≤ all_of most_n
  pub inner_most : here.inner ≤ all_of most_n
  pub grands_most : here.grands ≤ all_of most_n
  pub large_most : here.large ≤ all_of most_n
  pub fewer_sets : above.descs + above.grands ≤ here.descs + here.grands
  pub fewer_large : above.large ≤ here.large

-- x has k digits in binary: it is below 2^k, and below no smaller power
unfoldable pub has_length : ℕ → ℕ → Bool
has_length k x = ltb x (2 ^ k) && leb (2 ^ k) (2 * x + 1)

-- how many of n numbers have 32, 31, .. 0 digits: what stands at z counts those with z leading zeros among 32
unfoldable pub tally_of : ℕ → (ℕ → ℕ) → List ℕ
tally_of n x = table 33 (λ z. count_to n (λ i. has_length (32 - z) (x i)))

-- those of DESC, of its entries that have one in GRAND, of GRAND, and of the magnitudes
abbrev pub tallies_of : List ℤ → List ℕ → List ℕ → FourTallies
tallies_of A desc grand =
    record {
      descs = tally_of (length desc) (λ i. get_or desc i 0);
      inner = tally_of (length grand) (λ i. get_or desc i 0);
      grands = tally_of (length grand) (λ i. get_or grand i 0);
      large = tally_of (length A) (λ i. mag_at A i);
    }

-- what a function may give of each entry is the number at its place: `gives e r` says that it may give r of e, and d is what stands past the end
abbrev pub AllSized : {X : Type 0} → (X → ℕ → Type 0) → List X → X → (ℕ → ℕ) → Type 0
AllSized gives entries d x = (i r : ℕ) → i < length entries → gives (get_or entries i d) r → r ≡ x i

-- four counts without those that four tallies have at z, where they have no more
abbrev pub reach_less : Reach → ℕ → List ℕ → List ℕ → List ℕ → List ℕ → Reach
reach_less here z descs inner grands large =
    record {
      descs = here.descs - get_or descs z 0;
      inner = here.inner - get_or inner z 0;
      grands = here.grands - get_or grands z 0;
      large = here.large - get_or large z 0;
    }

pub record Within (here : Reach) (z : ℕ) (descs inner grands large : List ℕ) : Type 0 where
  pub zeros : z ≤ 32
  pub descs_less : get_or descs z 0 ≤ here.descs
  pub inner_less : get_or inner z 0 ≤ here.inner
  pub grands_less : get_or grands z 0 ≤ here.grands
  pub large_less : get_or large z 0 ≤ here.large
