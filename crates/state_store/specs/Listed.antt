-- The rows of a listing.
use Rattle.std.specs.Prelude.{List}
use Rattle.state_store.specs.declared.object.Row.{Row}
use Rattle.state_store.specs.declared.listing.Listed.{Listed}
use Rattle.state_store.specs.declared.listing.Listed.TheVariants.{Packed, Plain}

abbrev pub rows_of_listed : Listed → List Row
rows_of_listed (Packed rows) = rows
rows_of_listed (Plain rows) = rows
