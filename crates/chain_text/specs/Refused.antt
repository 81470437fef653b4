-- Why tokens spell no statements.
use Rattle.std.specs.Prelude.{List}
use Rattle.chain_text.specs.Token.{Token}
use Rattle.chain_text.specs.Grammar.{IsFirstWrong}
use Rattle.chain_text.specs.declared.grammar.GrammarError.{GrammarError}
use Rattle.chain_text.specs.declared.grammar.GrammarError.TheVariants.{Wrong, NoMemory}

abbrev pub IsGrammarError : List Token → GrammarError → Type 0
IsGrammarError ts (Wrong place) = IsFirstWrong ts place
IsGrammarError ts NoMemory = Unit {0}
