-- Which tokens the canonical spelling leads back to. (This project.)
use Rattle.std.specs.Prelude.{ℤ, pos, negsuc, Bool, true, false, nat_le}
use Rattle.std.specs.List.{list_all}
use Rattle.cl_ast.specs.Plain.{PlainKind, Name, Int, Long, Character, Str, Keyword, Reserved, Punctuator, Define}
use Rattle.cl_ast.specs.Lexemes.{fits_long, is_character, is_string_character}
use Rattle.cl_ast.specs.Pieces.{is_name}
use Rattle.cl_print.specs.Spelling.{in_string, in_character}

abbrev pub fits_int : ℤ → Bool
fits_int (pos n) = nat_le n 2147483647
fits_int (negsuc n) = false

-- whether a literal can spell this value as a `long`: from 0 to the greatest
abbrev pub is_long : ℤ → Bool
is_long (pos n) = fits_long n
is_long (negsuc n) = false

-- a token that a source may have outside of the front of a define line, and that isn't a reserved word
abbrev pub is_sayable : PlainKind → Bool
is_sayable (Name bytes) = is_name bytes
is_sayable (Int value) = fits_int value
is_sayable (Long value) = is_long value
is_sayable (Character byte) = is_character (in_character byte)
is_sayable (Str bytes) = list_all (λ byte. is_string_character (in_string byte)) bytes
is_sayable (Keyword word) = true
is_sayable (Punctuator mark) = true
is_sayable Reserved = false
is_sayable Define = false
