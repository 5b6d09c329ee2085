-- Words that are not reserved, but stand for something where they stand. They are written in any case.
use Rattle.std.specs.Prelude.{ℕ, Bool, if◌then◌else◌, List, codes, Option, Some, None}
use Rattle.std.specs.Str.{str_eq_ignore_ascii_case}
use Rattle.spec_syntax.specs.declared.tag.Tag.{Tag}
use Rattle.spec_syntax.specs.declared.tag.Tag.TheVariants as t
use Rattle.spec_syntax.specs.declared.word.TypeName.{TypeName}
use Rattle.spec_syntax.specs.declared.word.TypeName.TheVariants as name
use Rattle.spec_syntax.specs.declared.word.OptionName.{OptionName}
use Rattle.spec_syntax.specs.declared.word.OptionName.TheVariants as option
use Rattle.spec_syntax.specs.declared.word.CallName.{CallName}
use Rattle.spec_syntax.specs.declared.word.CallName.TheVariants as call
use Rattle.spec_syntax.specs.Input.{Parser, ◌>>=◌, required, refuse, peek, take_text}
use Rattle.spec_syntax.specs.Expr.{name as any_name}

abbrev pub is : List ℕ → List ℕ → Bool
is w known = str_eq_ignore_ascii_case w known

-- the types of columns
unfoldable pub type_name : List ℕ → Option TypeName
type_name w =
    if is w (codes "BIT") then Some name.Bit
    else (if is w (codes "INT") then Some name.Int
    else (if is w (codes "BIGINT") then Some name.BigInt
    else (if is w (codes "DATE") then Some name.Date
    else (if is w (codes "DECIMAL") then Some name.Decimal
    else (if is w (codes "NVARCHAR") then Some name.NVarChar
    else (if is w (codes "VARBINARY") then Some name.VarBinary else None))))))

-- the options of a table
unfoldable pub option_name : List ℕ → Option OptionName
option_name w =
    if is w (codes "LEDGER") then Some option.Ledger
    else (if is w (codes "SYSTEM_VERSIONING") then Some option.SystemVersioning
    else (if is w (codes "HISTORY_TABLE") then Some option.HistoryTable
    else (if is w (codes "LEDGER_VIEW") then Some option.LedgerView
    else (if is w (codes "APPEND_ONLY") then Some option.AppendOnly else None))))

-- what may be called, and what stands before its point
unfoldable pub call_name : List ℕ → Option CallName
call_name w =
    if is w (codes "COUNT") then Some call.Count
    else (if is w (codes "SUM") then Some call.Sum
    else (if is w (codes "sys") then Some call.Sys
    else (if is w (codes "sp_generate_database_ledger_digest") then Some call.Digest
    else (if is w (codes "IMAGE") then Some call.Image else None))))

-- types and options may stand in brackets, as names do
unfoldable pub type_word : Parser TypeName
type_word = any_name >>= (λ w. required (type_name w))

unfoldable pub option_word : Parser OptionName
option_word = any_name >>= (λ w. required (option_name w))

abbrev pub call_by : Tag → Parser CallName
call_by t.Word = take_text >>= (λ w. required (call_name w))
call_by _ = refuse

-- the others may not
unfoldable pub call_word : Parser CallName
call_word = peek >>= call_by
