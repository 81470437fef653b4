-- How much of each a source may have.
use Rattle.std.specs.Prelude.{ℕ}
use Rattle.element_lang.specs.declared.sizes.What.{What}
use Rattle.element_lang.specs.declared.sizes.What.TheVariants.{Depth, Objects, Entries, Writes}

abbrev pub limit_of : What → ℕ
limit_of Depth = 64
limit_of Objects = 64
limit_of Entries = 1048576
limit_of Writes = 64
