-- The errors of tokens as those of a text.
use Rattle.lexer.specs.declared.tokenizer.TokenError.{TokenError}
use Rattle.lexer.specs.declared.tokenizer.TokenError.TheVariants.{NoToken, NoMemory as NoTokenMemory}
use Rattle.element_text.specs.declared.error.TextError.{TextError}
use Rattle.element_text.specs.declared.error.TextError.TheVariants.{Token, NoMemory}

abbrev pub token_error : TokenError → TextError
token_error (NoToken offset) = Token offset
token_error NoTokenMemory = NoMemory
