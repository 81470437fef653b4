-- What a text tells, from the table that it reads as.
use Rattle.std.proofs.Common.{◌≡◌, ℕ, List, Bool, true, false, cond, Some, None, Result, Ok, Err, IfOk, IfErr, refl, ap, ◌∙◌}
use Rattle.std.specs.Str.{IsUtf8, is_utf8}
use Rattle.std.proofs.lemmas.Str.{is_utf8-from_IsUtf8, IsUtf8-from_is_utf8}
use Rattle.toml.specs.Data.{Members}
use Rattle.toml.specs.Parse.{parse_document}
use Rattle.resource_limits.specs.declared.limits.Limits.{Limits}
use Rattle.resource_limits.specs.declared.limits.LimitsError.{LimitsError}
use Rattle.resource_limits.specs.declared.limits.LimitsError.TheVariants.{NoMemory}
use Rattle.resource_limits.specs.Limits.{document, fault_of, refusal_in, refusal_of, HasLimits, TellsLimits}

pub document_read : (text : List ℕ) (table : Members) → IsUtf8 text → parse_document text ≡ Some table → document text ≡ Some table
document_read text table utf8 read = rw (is_utf8-from_IsUtf8 text utf8, read)

none_read : (text : List ℕ) (b : Bool) → is_utf8 text ≡ b → (IsUtf8 text → parse_document text ≡ None) → cond b (parse_document text) None ≡ None
none_read text true is none = none (IsUtf8-from_is_utf8 text is)
none_read text false is none = refl

pub document_none : (text : List ℕ) → (IsUtf8 text → parse_document text ≡ None) → document text ≡ None
document_none text none = none_read text (is_utf8 text) refl none

pub tells : (r : Result Limits LimitsError) (text : List ℕ) (table : Members) → document text ≡ Some table → IfOk r (HasLimits table) → IfOk r (TellsLimits text)
tells (Ok l) text table read has = (table, read, has)
tells (Err e) text table read has = has

pub good : (r : Result Limits LimitsError) (text : List ℕ) (table : Members) → document text ≡ Some table
    → IfOk r (λ _. fault_of table ≡ None) → IfOk r (λ _. refusal_of text ≡ None)
good (Ok l) text table read none = ap refusal_in read ∙ none
good (Err e) text table read none = none

pub refused : (r : Result Limits LimitsError) (text : List ℕ) (table : Members) → document text ≡ Some table
    → IfErr r (λ e. fault_of table ≡ Some e) → IfErr r (λ e. ¬ (e ≡ NoMemory) → refusal_of text ≡ Some e)
refused (Ok l) text table read fault = fault
refused (Err e) text table read fault = λ _. ap refusal_in read ∙ fault
