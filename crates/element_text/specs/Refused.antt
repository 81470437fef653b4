-- Why a text is refused.
use Rattle.std.specs.Prelude.{ℕ, List}
use Rattle.element_lang.specs.declared.sizes.What.TheVariants.{Depth, Objects, Entries, Writes}
use Rattle.element_lang.specs.Accepted.{IsNotUtf8, HasNoToken, IsTooDeep, IsOutsideGrammar, HasManyObjects, BreaksRule}
use Rattle.element_lang.specs.Accepted.{HasManyEntries, HasManyWrites}
use Rattle.element_text.specs.declared.error.TextError.{TextError}
use Rattle.element_text.specs.declared.error.TextError.TheVariants.{NotUtf8, Token, TooLarge, Syntax, Rule, NoMemory}

-- the text is refused for this
abbrev pub IsRefused : List ℕ → TextError → Type 0
IsRefused text (NotUtf8 offset) = IsNotUtf8 text offset
IsRefused text (Token offset) = HasNoToken text offset
IsRefused text (TooLarge Depth have allowed) = IsTooDeep text have allowed
IsRefused text (TooLarge Objects have allowed) = HasManyObjects text have allowed
IsRefused text (TooLarge Entries have allowed) = HasManyEntries text have allowed
IsRefused text (TooLarge Writes have allowed) = HasManyWrites text have allowed
IsRefused text (Syntax offset) = IsOutsideGrammar text offset
IsRefused text (Rule rule offset) = BreaksRule text rule offset
IsRefused text NoMemory = Unit {0}
