-- From the tokens of the program to their plain form. (This project.)
use Rattle.cl_ast.specs.Plain.{PlainKind, Name, Int, Long, Character, Str, Keyword, Reserved, Punctuator, Define, PlainToken}
use Rattle.cl_ast.specs.declared.token.TokenKind.{TokenKind}
use Rattle.cl_ast.specs.declared.token.TokenKind.TheVariants as kinds
use Rattle.cl_ast.specs.declared.token.Token.{Token}

-- what a token is, without the room of its bytes
abbrev pub plain_kind : TokenKind → PlainKind
plain_kind (kinds.Name bytes) = Name bytes.items
plain_kind (kinds.Int value) = Int value
plain_kind (kinds.Long value) = Long value
plain_kind (kinds.Character byte) = Character byte
plain_kind (kinds.Str bytes) = Str bytes.items
plain_kind (kinds.Word word) = Keyword word
plain_kind kinds.Reserved = Reserved
plain_kind (kinds.Mark mark) = Punctuator mark
plain_kind kinds.Define = Define

-- a token and its place in plain form
abbrev pub plain_token : Token → PlainToken
plain_token token = record { kind = plain_kind token.kind; start = token.span.start; end = token.span.end }
