-- Rows that the definitions of tokens give by computing.
use Rattle.std.proofs.Common.{◌≡◌, true, false, List, [], ◌∷◌, length, refl}
use Rattle.std.specs.Prelude.{codes, pos}
use Rattle.cl_ast.specs.declared.fault.LexKind.TheVariants as faults
use Rattle.cl_ast.specs.declared.mark.Mark.TheVariants as marks
use Rattle.cl_ast.specs.declared.word.Word.TheVariants as words
use Rattle.cl_ast.specs.declared.word.TheConstants.{WORDS, RESERVED}
use Rattle.cl_ast.specs.declared.mark.TheConstants.{MARKS}
use Rattle.cl_ast.specs.Plain.{Name, Int, Long, Character, Keyword, Reserved, Punctuator, PlainToken}
use Rattle.cl_ast.specs.Lexemes.{Letters, Sign, word_of, is_reserved, mark_of, letters_kind}
use Rattle.cl_ast.specs.Pieces.{Lexed, token_from}
use Rattle.cl_ast.specs.Ends.{Ends, Fails, literal_end, LineEnds, LineFails, NoLine, tail_end, line_end}
use Rattle.cl_ast.specs.Splits.{IsFirst, Splits}

-- how many words, reserved words and marks there are
pub tables : (length WORDS ≡ 19) × ((length RESERVED ≡ 20) × (length MARKS ≡ 29))
tables = (refl, (refl, refl))

pub keyword : letters_kind (codes "inp") ≡ Keyword words.Inp
unfolding word_of is_reserved
keyword = refl

pub reserved : letters_kind (codes "auto") ≡ Reserved
unfolding word_of is_reserved
reserved = refl

pub name : letters_kind (codes "int_") ≡ Name (codes "int_")
unfolding word_of is_reserved
name = refl

pub greatest_int : literal_end (codes "2147483647;") ≡ Ends (Int (pos 2147483647)) (codes ";")
greatest_int = refl

pub least_long : literal_end (codes "2147483648 ") ≡ Ends (Long (pos 2147483648)) (codes " ")
least_long = refl

pub hexadecimal_long : literal_end (codes "0x80000000") ≡ Ends (Long (pos 2147483648)) []
hexadecimal_long = refl

pub wide : literal_end (codes "9223372036854775808;") ≡ Fails faults.WideLiteral (codes "9223372036854775808;")
wide = refl

pub two_zeros : literal_end (codes "00") ≡ Fails faults.BadByte (codes "0")
two_zeros = refl

pub no_digit : literal_end (codes "0xg") ≡ Fails faults.BadByte (codes "g")
no_digit = refl

pub zero_byte : literal_end (codes "'\\0';") ≡ Ends (Character 0) (codes ";")
zero_byte = refl

pub no_escape : literal_end (codes "\"a\\q\"") ≡ Fails faults.BadByte (codes "q\"")
no_escape = refl

pub open_string : literal_end (codes "\"a\\\n\"") ≡ Fails faults.OpenString (codes "\"a\\\n\"")
open_string = refl

pub defines : line_end (codes "define N -5 // c") ≡ LineEnds []
unfolding word_of is_reserved tail_end
defines = refl

pub defines_two : line_end (codes "define N 5 6") ≡ NoLine
unfolding word_of is_reserved tail_end
defines_two = refl

pub opens_behind : line_end (codes "define N 5 /*") ≡ LineFails faults.OpenComment (codes "/*")
unfolding word_of is_reserved tail_end
opens_behind = refl

pub other_line : line_end (codes "if 1") ≡ NoLine
other_line = refl

-- the longest mark is taken, so `a+++b` is `a ++ + b`
abbrev longest_tokens : List PlainToken
longest_tokens =
    token_from 0 (Name (codes "a")) (codes "a")
    ∷ token_from 1 (Punctuator marks.Increment) (codes "++")
    ∷ token_from 3 (Punctuator marks.Plus) (codes "+")
    ∷ token_from 4 (Name (codes "b")) (codes "b")
    ∷ []

first_name : IsFirst true (codes "a+++b") (Lexed (Letters (codes "a"))) (codes "+++b")
unfolding word_of is_reserved
first_name = record { whole = refl; form = refl; longest = refl }

increment : IsFirst false (codes "+++b") (Lexed (Sign (codes "++"))) (codes "+b")
unfolding mark_of
increment = record { whole = refl; form = refl; longest = refl }

plus : IsFirst false (codes "+b") (Lexed (Sign (codes "+"))) (codes "b")
unfolding mark_of
plus = record { whole = refl; form = refl; longest = refl }

last_name : IsFirst false (codes "b") (Lexed (Letters (codes "b"))) []
unfolding word_of is_reserved
last_name = record { whole = refl; form = refl; longest = refl }

pub longest : Splits (codes "a+++b") longest_tokens
unfolding word_of is_reserved mark_of
longest =
    record {
      pieces = Lexed (Letters (codes "a")) ∷ Lexed (Sign (codes "++")) ∷ Lexed (Sign (codes "+")) ∷ Lexed (Letters (codes "b")) ∷ [];
      fresh = false;
      leads = (codes "+++b", first_name, (codes "+b", increment, (codes "b", plus, ([], last_name, (refl, refl)))));
      tokens_are = refl;
    }
