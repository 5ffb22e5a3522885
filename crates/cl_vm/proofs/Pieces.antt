-- The first piece of a text.
use Rattle.std.proofs.Common.{◌≡◌, ℕ, ◌+◌, ◌<◌, ◌≤◌, Bool, true, false, List, [], ◌∷◌, ◌++◌, length, drop, Option, Some, None, refl, sym, ap, ◌∙◌, subst, arith, eqb-true, append-nil, append_assoc, length-append, length-drop}
use Rattle.std.specs.Fmt.{signed_decimal}
use Rattle.std.specs.Prelude.{ℤ, ◌==◌, if◌then◌else◌, option_map}
use Rattle.std.proofs.lemmas.Option.{same_Some}
use Rattle.cl_code.specs.Formats.{Piece, Byte, Decimal, Character, pieces, count_of, printed}
use Rattle.cl_vm.specs.Printing.{plain_piece, kind_of, bytes_of, first_byte, second_byte, IsFirst, PrintsOn, CountsOn, Added, piece_bytes, takes_of}
use Rattle.cl_vm.specs.declared.output.PieceKind.{PieceKind}
use Rattle.cl_vm.specs.declared.output.PieceKind.TheVariants as kinds

-- a piece before others
mapped : (x : Piece) (o : Option (List Piece)) (all : List Piece) → option_map (λ rest. x ∷ rest) o ≡ Some all → (more : List Piece) × (o ≡ Some more) × (all ≡ x ∷ more)
mapped x None all h = absurd cc
mapped x (Some more) all h = (more, refl, sym (same_Some (x ∷ more) all h))

module _ (a b c : ℕ) (bytes : List ℕ) where
  abbrev long : List ℕ
  long = a ∷ b ∷ c ∷ bytes

  -- the pieces by what the bytes are
  abbrev choice : Bool → Bool → Bool → Bool → Bool → Bool → Option (List Piece)
  choice percent d ch two l ld =
      if percent
      then (if d then option_map (λ rest. Decimal ∷ rest) (pieces (c ∷ bytes))
      else (if ch then option_map (λ rest. Character ∷ rest) (pieces (c ∷ bytes))
      else (if two then option_map (λ rest. Byte b ∷ rest) (pieces (c ∷ bytes))
      else (if l then (if ld then option_map (λ rest. Decimal ∷ rest) (pieces bytes) else None)
      else None))))
      else option_map (λ rest. Byte a ∷ rest) (pieces (b ∷ c ∷ bytes))

  abbrev kind_by : Bool → Bool → Bool → Bool → Piece
  kind_by percent d ch two = if percent then (if d then Decimal else (if ch then Character else (if two then Byte b else Decimal))) else Byte a

  abbrev bytes_by : Bool → Bool → Bool → Bool → ℕ
  bytes_by percent d ch two = if percent then (if d then 2 else (if ch then 2 else (if two then 2 else 3))) else 1

  first_by : (percent d ch two l ld : Bool) (all : List Piece) → pieces long ≡ Some all → choice percent d ch two l ld ≡ Some all → IsFirst long (kind_by percent d ch two) (bytes_by percent d ch two)
  first_by false d ch two l ld all is h = let (more, m, e) = mapped (Byte a) (pieces (b ∷ c ∷ bytes)) all h in (more, is ∙ ap Some e, m, omega arith, omega arith)
  first_by true true ch two l ld all is h = let (more, m, e) = mapped Decimal (pieces (c ∷ bytes)) all h in (more, is ∙ ap Some e, m, omega arith, omega arith)
  first_by true false true two l ld all is h = let (more, m, e) = mapped Character (pieces (c ∷ bytes)) all h in (more, is ∙ ap Some e, m, omega arith, omega arith)
  first_by true false false true l ld all is h = let (more, m, e) = mapped (Byte b) (pieces (c ∷ bytes)) all h in (more, is ∙ ap Some e, m, omega arith, omega arith)
  first_by true false false false true true all is h = let (more, m, e) = mapped Decimal (pieces bytes) all h in (more, is ∙ ap Some e, m, omega arith, omega arith)
  first_by true false false false true false all is h = absurd cc
  first_by true false false false false ld all is h = absurd cc

  kinds_agree : (percent d ch two : Bool) → (two ≡ true → b ≡ 37) → plain_piece (if percent then (if d then kinds.Decimal else (if ch then kinds.Character else (if two then kinds.Byte 37 else kinds.Decimal))) else kinds.Byte a) ≡ kind_by percent d ch two
  kinds_agree false d ch two h = refl
  kinds_agree true true ch two h = refl
  kinds_agree true false true two h = refl
  kinds_agree true false false true h = ap Byte (sym (h refl))
  kinds_agree true false false false h = refl

  first_long : (all : List Piece) → pieces long ≡ Some all → IsFirst long (plain_piece (kind_of a b)) (bytes_of a b)
  first_long all is = subst (λ (x : Piece). IsFirst long x (bytes_of a b)) (sym (kinds_agree (a == 37) (b == 100) (b == 99) (b == 37) (λ e. eqb-true b 37 e))) (first_by (a == 37) (b == 100) (b == 99) (b == 37) (b == 108) (c == 100) all is is)

module _ (a b : ℕ) where
  abbrev choice_two : Bool → Bool → Bool → Bool → Option (List Piece)
  choice_two percent d ch two =
      if percent
      then (if d then Some (Decimal ∷ [])
      else (if ch then Some (Character ∷ [])
      else (if two then Some (Byte b ∷ [])
      else None)))
      else option_map (λ rest. Byte a ∷ rest) (pieces (b ∷ []))

  two_by : (percent d ch two : Bool) (all : List Piece) → pieces (a ∷ b ∷ []) ≡ Some all → choice_two percent d ch two ≡ Some all → IsFirst (a ∷ b ∷ []) (kind_by a b 0 [] percent d ch two) (bytes_by a b 0 [] percent d ch two)
  two_by false d ch two all is h = let (more, m, e) = mapped (Byte a) (pieces (b ∷ [])) all h in (more, is ∙ ap Some e, m, omega arith, omega arith)
  two_by true true ch two all is h = ([], is ∙ sym h, refl, omega arith, omega arith)
  two_by true false true two all is h = ([], is ∙ sym h, refl, omega arith, omega arith)
  two_by true false false true all is h = ([], is ∙ sym h, refl, omega arith, omega arith)
  two_by true false false false all is h = absurd cc

  first_two : (all : List Piece) → pieces (a ∷ b ∷ []) ≡ Some all → IsFirst (a ∷ b ∷ []) (plain_piece (kind_of a b)) (bytes_of a b)
  first_two all is = subst (λ (x : Piece). IsFirst (a ∷ b ∷ []) x (bytes_of a b)) (sym (kinds_agree a b 0 [] (a == 37) (b == 100) (b == 99) (b == 37) (λ e. eqb-true b 37 e))) (two_by (a == 37) (b == 100) (b == 99) (b == 37) all is is)

one_by : (a : ℕ) (percent : Bool) (all : List Piece) → pieces (a ∷ []) ≡ Some all → (if percent then None else Some (Byte a ∷ [])) ≡ Some all → IsFirst (a ∷ []) (plain_piece (if percent then kinds.Decimal else kinds.Byte a)) (if percent then 3 else 1)
one_by a true all is h = absurd cc
one_by a false all is h = ([], is ∙ sym h, refl, omega arith, omega arith)

pub first_is : (text : List ℕ) → 0 < length text → (all : List Piece) → pieces text ≡ Some all → IsFirst text (plain_piece (kind_of (first_byte text) (second_byte text))) (bytes_of (first_byte text) (second_byte text))
first_is [] some all is = absurd (omega (arith, some))
first_is (a ∷ []) some all is = one_by a (a == 37) all is is
first_is (a ∷ b ∷ []) some all is = first_two a b all is
first_is (a ∷ b ∷ c ∷ bytes) some all is = first_long a b c bytes all is

-- ---- printing

printed_split : (x : Piece) (more : List Piece) (ns : List ℤ) → count_of (x ∷ []) ≤ length ns → printed (x ∷ more) ns ≡ printed (x ∷ []) ns ++ printed more (drop (count_of (x ∷ [])) ns)
printed_split (Byte b) more ns h = refl
printed_split Decimal more [] h = absurd (omega (arith, h))
printed_split Decimal more (n ∷ ns) h = ap (λ (bytes : List ℕ). bytes ++ printed more ns) (sym (append-nil (signed_decimal n)))
printed_split Character more [] h = absurd (omega (arith, h))
printed_split Character more (n ∷ ns) h = refl

count_split : (x : Piece) (more : List Piece) → count_of (x ∷ more) ≡ count_of (x ∷ []) + count_of more
count_split (Byte b) more = omega arith
count_split Decimal more = omega arith
count_split Character more = omega arith

module _ (before now text rest : List ℕ) (numbers left : List ℤ) (on : PrintsOn before now text rest numbers left) (some : 0 < length rest) where
  abbrev kind : PieceKind
  kind = kind_of (first_byte rest) (second_byte rest)

  abbrev size : ℕ
  size = bytes_of (first_byte rest) (second_byte rest)

  pub piece_first : IsFirst rest (plain_piece kind) size
  piece_first = first_is rest some on.more on.is

  more_is : on.more ≡ plain_piece kind ∷ piece_first.0
  more_is = same_Some on.more (plain_piece kind ∷ piece_first.0) (sym on.is ∙ piece_first.1)

  count_is : count_of on.more ≡ takes_of kind + count_of piece_first.0
  count_is = ap (λ (xs : List Piece). count_of xs) more_is ∙ count_split (plain_piece kind) piece_first.0

  pub piece_enough : takes_of kind ≤ length left
  piece_enough = let e = count_is in let h = on.enough in omega (arith, e, h)

  printed_is : printed on.more left ≡ piece_bytes kind left ++ printed piece_first.0 (drop (takes_of kind) left)
  printed_is = ap (λ (xs : List Piece). printed xs left) more_is ∙ printed_split (plain_piece kind) piece_first.0 left piece_enough

  pub prints_on : (now' : List ℕ) → Added now true (piece_bytes kind left) now' → PrintsOn before now' text (drop size rest) numbers (drop (takes_of kind) left)
  prints_on now' (is, few) = record {
    more = piece_first.0;
    is = piece_first.2;
    enough = (let e = count_is in let h = on.enough in let d = length-drop (takes_of kind) left in omega (arith, e, h, d));
    same = λ all all_is.
        ap (λ (bytes : List ℕ). bytes ++ printed piece_first.0 (drop (takes_of kind) left)) is
        ∙ append_assoc now (piece_bytes kind left) (printed piece_first.0 (drop (takes_of kind) left))
        ∙ ap (λ (bytes : List ℕ). now ++ bytes) (sym printed_is)
        ∙ on.same all all_is;
    few = few;
  }

  pub prints_too_much : (now' : List ℕ) → Added now false (piece_bytes kind left) now' → (all : List Piece) → pieces text ≡ Some all → 65536 < length before + length (printed all numbers)
  prints_too_much now' (is, many) all all_is =
      let a = ap (λ (bytes : List ℕ). length bytes) (on.same all all_is) in
      let b = length-append now (printed on.more left) in
      let c = length-append before (printed all numbers) in
      let d = ap (λ (bytes : List ℕ). length bytes) printed_is in
      let f = length-append (piece_bytes kind left) (printed piece_first.0 (drop (takes_of kind) left)) in
      omega (arith, a, b, c, d, f, many)

-- ---- one piece of a text, as a function reads it

-- what was read of the rest of a text is its first piece
pub record IsRead (rest shown : List ℕ) (first second : ℕ) (piece : PieceKind) (count : ℕ) : Type 0 where
  pub whole : shown ≡ rest
  pub first_is : first ≡ first_byte shown
  pub second_is : second ≡ second_byte shown
  pub kind : piece ≡ kind_of first second
  pub bytes : count ≡ bytes_of first second

module _ (before now text rest shown : List ℕ) (numbers left given : List ℤ) (first second : ℕ) (piece : PieceKind) (count : ℕ) (on : PrintsOn before now text rest numbers left) (some : 0 < length rest) (read : IsRead rest shown first second piece count) (given_is : given ≡ left) where
  first_same : first ≡ first_byte rest
  first_same = read.first_is ∙ ap (λ (xs : List ℕ). first_byte xs) read.whole

  second_same : second ≡ second_byte rest
  second_same = read.second_is ∙ ap (λ (xs : List ℕ). second_byte xs) read.whole

  kind_same : piece ≡ kind_of (first_byte rest) (second_byte rest)
  kind_same = read.kind ∙ ap (λ (b : ℕ). kind_of b second) first_same ∙ ap (λ (b : ℕ). kind_of (first_byte rest) b) second_same

  count_same : count ≡ bytes_of (first_byte rest) (second_byte rest)
  count_same = read.bytes ∙ ap (λ (b : ℕ). bytes_of b second) first_same ∙ ap (λ (b : ℕ). bytes_of (first_byte rest) b) second_same

  takes_same : takes_of piece ≡ takes_of (kind_of (first_byte rest) (second_byte rest))
  takes_same = ap (λ (x : PieceKind). takes_of x) kind_same

  bytes_same : piece_bytes piece given ≡ piece_bytes (kind_of (first_byte rest) (second_byte rest)) left
  bytes_same = ap (λ (x : PieceKind). piece_bytes x given) kind_same ∙ ap (λ (ns : List ℤ). piece_bytes (kind_of (first_byte rest) (second_byte rest)) ns) given_is

  pub read_enough : takes_of piece ≤ length given
  read_enough = let h = piece_enough before now text rest numbers left on some in let e = takes_same in let l = ap (λ (ns : List ℤ). length ns) given_is in omega (arith, h, e, l)

  pub read_fits : count ≤ length rest
  read_fits = let h = (piece_first before now text rest numbers left on some).4 in let e = count_same in omega (arith, h, e)

  pub read_on : (now' : List ℕ) → Added now true (piece_bytes piece given) now' → PrintsOn before now' text (drop count rest) numbers (drop (takes_of piece) left)
  read_on now' added =
      let next = prints_on before now text rest numbers left on some now' (added.0 ∙ ap (λ (bytes : List ℕ). now ++ bytes) bytes_same, added.1) in
      subst (λ (n : ℕ). PrintsOn before now' text (drop n rest) numbers (drop (takes_of piece) left)) (sym count_same)
      (subst (λ (n : ℕ). PrintsOn before now' text (drop (bytes_of (first_byte rest) (second_byte rest)) rest) numbers (drop n left)) (sym takes_same) next)

  pub read_too_much : (now' : List ℕ) → Added now false (piece_bytes piece given) now' → (all : List Piece) → pieces text ≡ Some all → 65536 < length before + length (printed all numbers)
  read_too_much now' (same, many) all is =
      let e = ap (λ (bytes : List ℕ). length bytes) bytes_same in
      prints_too_much before now text rest numbers left on some now' (same, omega (arith, many, e)) all is

-- ---- counting

takes_few : (x : PieceKind) → takes_of x ≤ 1
takes_few (kinds.Byte b) = omega arith
takes_few kinds.Decimal = omega arith
takes_few kinds.Character = omega arith

-- a piece more was counted
pub record CountedOn (text rest : List ℕ) (now count taken : ℕ) : Type 0 where
  pub on : CountsOn text (drop count rest) (now + taken)
  pub some : 0 < count
  pub fits : count ≤ length rest
  pub few : taken ≤ 1

module _ (text rest shown : List ℕ) (now first second : ℕ) (piece : PieceKind) (count taken : ℕ) (on : CountsOn text rest now) (some : 0 < length rest) (read : IsRead rest shown first second piece count) (taken_is : taken ≡ takes_of piece) where
  abbrev kind_there : PieceKind
  kind_there = kind_of (first_byte rest) (second_byte rest)

  abbrev size_there : ℕ
  size_there = bytes_of (first_byte rest) (second_byte rest)

  kind_read : piece ≡ kind_there
  kind_read = read.kind ∙ ap (λ (b : ℕ). kind_of b second) (read.first_is ∙ ap (λ (xs : List ℕ). first_byte xs) read.whole) ∙ ap (λ (b : ℕ). kind_of (first_byte rest) b) (read.second_is ∙ ap (λ (xs : List ℕ). second_byte xs) read.whole)

  size_read : count ≡ size_there
  size_read = read.bytes ∙ ap (λ (b : ℕ). bytes_of b second) (read.first_is ∙ ap (λ (xs : List ℕ). first_byte xs) read.whole) ∙ ap (λ (b : ℕ). bytes_of (first_byte rest) b) (read.second_is ∙ ap (λ (xs : List ℕ). second_byte xs) read.whole)

  pub counted_on : CountedOn text rest now count taken
  counted_on =
      let first_piece : IsFirst rest (plain_piece kind_there) size_there = first_is rest some on.more on.is in
      let more_is = same_Some on.more (plain_piece kind_there ∷ first_piece.0) (sym on.is ∙ first_piece.1) in
      let split = ap (λ (xs : List Piece). count_of xs) more_is ∙ count_split (plain_piece kind_there) first_piece.0 in
      let takes : taken ≡ takes_of kind_there = taken_is ∙ ap (λ (x : PieceKind). takes_of x) kind_read in
      let few = takes_few kind_there in
      let size = size_read in
      record {
        on = record {
          more = first_piece.0;
          is = ap (λ (n : ℕ). pieces (drop n rest)) size ∙ first_piece.2;
          same = λ all is. let e = on.same all is in omega (arith, e, split, takes);
        };
        some = omega (arith, size, first_piece.3);
        fits = omega (arith, size, first_piece.4);
        few = omega (arith, few, takes);
      }
