-- The catalogue before any call.
use Rattle.std.proofs.Common.{◌≡◌, List, [], ◌∷◌, refl, sym, ap, map}
use Rattle.catalogue_state.specs.declared.parts.SourceData.{SourceData}
use Rattle.catalogue_state.specs.Bound.{unfed, data_of, opened, opening, HasSmall}
use Rattle.catalogue_hall.specs.Kept.{IsKept}

data_back : (sources : List SourceData) → map data_of (map unfed sources) ≡ sources
data_back [] = refl
data_back (d ∷ sources) = ap (λ l. d ∷ l) (data_back sources)

-- the opening state is its own
pub opening_opened : (sources : List SourceData) → opening (opened sources) ≡ opened sources
opening_opened sources = ap opened (data_back sources)

pub kept_first : (sources : List SourceData) → HasSmall (opened sources) → IsKept (opened sources) sources
kept_first sources small = record { small = small; listed = sym (data_back sources) }
