-- What several calls of a source and of a sink do together, one after another.
use Rattle.std.proofs.Common.{◌≡◌, ◌+◌, ◌≤◌, ℕ, List, [], ◌++◌, length, take, drop, refl, arith, length-append, length-drop, sym, ◌∙◌, ap, append_assoc, append-nil, take-append-drop, drop-drop, length-take-le}
use Rattle.std.specs.Prelude.{Option, Some, None}
use Rattle.std.proofs.Math.Seq.{take-add, take-length}
use Rattle.cl_outside.specs.Streams.{Gives, Takes, TakesAll, EndsAt, Appends}

gives_more : (xs into : List ℕ) (n : ℕ) (bytes : List ℕ) (rest : List ℕ) (after : Option (List ℕ)) → Gives (length xs) xs bytes (Some rest) → Gives n into rest after → n ≤ length into → Gives (length (xs ++ take n into)) (xs ++ take n into) bytes after
gives_more xs into n bytes rest after first next le =
    let r : rest ≡ drop (length xs) bytes = cc first.rest in
    let more : length (take n into) ≡ n = length-take-le n into le in
    let len : length (xs ++ take n into) ≡ length xs + n = omega (arith, length-append xs (take n into)) in
    let all : take (length xs + n) bytes ≡ take (length xs) bytes ++ take n (drop (length xs) bytes) = take-add (length xs) n bytes in
    let own : take (length xs) xs ≡ xs = take-length xs in
    let other : take (length xs + n) bytes ≡ xs ++ take n into = cc in
    let there : drop n (drop (length xs) bytes) ≡ drop (length xs + n) bytes = drop-drop n (length xs) bytes in
    record {
      some = rw len (omega (arith, length-drop (length xs) bytes, ap length r, first.some, next.some));
      same = take-length (xs ++ take n into) ∙ sym other ∙ ap (λ k. take k bytes) (sym len);
      rest = next.rest ∙ ap (λ k. Some (drop n k)) r ∙ ap Some there ∙ ap (λ k. Some (drop k bytes)) (sym len);
    }

-- and then n bytes more
pub takes_more : (xs ys into : List ℕ) (n : ℕ) (before between after : Option (List ℕ)) → ys ≡ xs ++ take n into → n ≤ length into → Takes (length xs) xs before between → Takes n into between after → Takes (length ys) ys before after
takes_more xs ys into n None between after same le first next = tt
takes_more xs ys into n (Some bytes) None after same le first next = absurd (cc first.rest)
takes_more xs ys into n (Some bytes) (Some rest) after same le first next =
    rw same (gives_more xs into n bytes rest after first next le)

-- a read of 0 bytes says that these were all
pub takes_all : (xs ys into : List ℕ) (n : ℕ) (before between after : Option (List ℕ)) → ys ≡ xs → n ≡ 0 → Takes (length xs) xs before between → Takes n into between after → EndsAt n between → TakesAll ys before after
takes_all xs ys into n None between after same zero first next end = tt
takes_all xs ys into n (Some bytes) None after same zero first next end = absurd (cc first.rest)
takes_all xs ys into n (Some bytes) (Some rest) after same zero first next end =
    let none : rest ≡ [] = end.0 zero in
    let r : rest ≡ drop (length xs) bytes = cc first.rest in
    let whole : take (length xs) bytes ++ drop (length xs) bytes ≡ bytes = take-append-drop (length xs) bytes in
    let own : take (length xs) xs ≡ xs = take-length xs in
    let front : xs ++ [] ≡ xs = append-nil xs in
    record { same = cc (first.same, whole, own, front, none, r, same); rest = next.rest ∙ ap (λ k. Some (drop k rest)) zero ∙ ap Some none }

-- and then the next n of the bytes
pub appends_more : (m n : ℕ) (bytes others : List ℕ) (before between after : Option (List ℕ)) → others ≡ drop m bytes → Appends before (take m bytes) between → Appends between (take n others) after → Appends before (take (m + n) bytes) after
appends_more m n bytes others None between after same first next = tt
appends_more m n bytes others (Some old) None after same first next = absurd (cc first)
appends_more m n bytes others (Some old) (Some mid) after same first next =
    let r : mid ≡ old ++ take m bytes = cc first in
    let all : take (m + n) bytes ≡ take m bytes ++ take n (drop m bytes) = take-add m n bytes in
    let group : (old ++ take m bytes) ++ take n (drop m bytes) ≡ old ++ (take m bytes ++ take n (drop m bytes)) = append_assoc old (take m bytes) (take n (drop m bytes)) in
    cc
