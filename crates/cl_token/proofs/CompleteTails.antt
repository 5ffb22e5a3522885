-- The tail of a line that defines ends where its spelling does, and a line with `#` is read by its word.
use Rattle.std.proofs.Common.{◌≡◌, ℕ, Bool, true, false, cond, not, List, [], ◌∷◌, ◌++◌, Some, refl, sym, ap, subst, ◌∙◌, arith, append_assoc}
use Rattle.std.proofs.lemmas.Bool.{not-false, and_parts, not-true, not_from_false, eqb-true}
use Rattle.std.proofs.lemmas.List.{append-nil}
use Rattle.std.specs.Prelude.{codes}
use Rattle.std.specs.List.{list_all}
use Rattle.cl_ast.specs.Plain.{PlainToken}
use Rattle.cl_ast.specs.Bytes.{is_line_end, is_space, is_blank, is_name_byte, begins_with}
use Rattle.cl_ast.specs.Lexemes.{same_bytes}
use Rattle.cl_ast.specs.Pieces.{Filler, Separator, Block, Line, fillers_spelling, filler_goes_on, is_tail, closes, IncludeLine, include_spelling, is_include}
use Rattle.cl_ast.specs.Rows.{front_run, after_run, after_close}
use Rattle.cl_ast.specs.Ends.{LineEnds, tail_end, word_end, line_end}
use Rattle.cl_token.specs.Scanning.{Goes, step, line_step, line_step_of, line_tokens, define_between, step_at}
use Rattle.cl_token.proofs.Runs.{front_whole, after_whole}
use Rattle.cl_token.proofs.Comments.{block_ends, line_is, blank_is, end_is, nothing, blank_in_line}
use Rattle.cl_token.proofs.CompleteBytes.{true_is_false, begins_by, name_in_line}
use Rattle.cl_token.proofs.CompleteFills.{closes_at}

-- whether a byte stands in a line
abbrev pub in_line : ℕ → Bool
in_line byte = not (is_line_end byte)

end_again : (rest : List ℕ) → begins_with in_line rest ≡ false → tail_end rest ≡ LineEnds rest
end_again [] ends = nothing [] (omega arith)
end_again (byte ∷ bytes) ends =
    let ten : byte ≡ 10 = eqb-true byte 10 (not-false (is_line_end byte) ends) in
    subst (λ (b : ℕ). tail_end (b ∷ bytes) ≡ LineEnds (b ∷ bytes)) (sym ten) (end_is bytes)

-- a tail that doesn't go on in its line is empty
empty_tail : (tail : List Filler) → is_tail tail ≡ true → begins_with in_line (fillers_spelling tail) ≡ false → fillers_spelling tail ≡ []
empty_tail [] form ends = refl
empty_tail (Separator byte ∷ fs) form ends =
    let blank = (and_parts (is_blank byte) _ form).0 in
    true_is_false (sym (not_from_false (is_line_end byte) (blank_in_line byte blank)) ∙ ends)
empty_tail (Block text ∷ fs) form ends = true_is_false ends
empty_tail (Line text ∷ fs) form ends = true_is_false ends

pub tail_again : (tail : List Filler) (rest : List ℕ) → is_tail tail ≡ true → begins_with in_line rest ≡ false → tail_end (fillers_spelling tail ++ rest) ≡ LineEnds rest
tail_again [] rest form ends = end_again rest ends
tail_again (Separator byte ∷ fs) rest form ends =
    let p = and_parts (is_blank byte) _ form in
    let q = and_parts (not (begins_with (filler_goes_on (Separator byte)) (fillers_spelling fs))) (is_tail fs) p.1 in
    blank_is byte (fillers_spelling fs ++ rest) p.0 ∙ tail_again fs rest q.1 ends
tail_again (Block text ∷ fs) rest form ends =
    let p = and_parts (not (closes text)) _ form in
    let q = and_parts (not (begins_with (filler_goes_on (Block text)) (fillers_spelling fs))) (is_tail fs) p.1 in
    let more = fillers_spelling fs ++ rest in
    let close : after_close (text ++ 42 ∷ 47 ∷ more) ≡ Some more = closes_at text more (not-true (closes text) p.0) in
    let whole : ((text ++ 42 ∷ 47 ∷ []) ++ fillers_spelling fs) ++ rest ≡ text ++ 42 ∷ 47 ∷ more =
    append_assoc (text ++ 42 ∷ 47 ∷ []) (fillers_spelling fs) rest ∙ append_assoc text (42 ∷ 47 ∷ []) more in
    ap (λ (x : List ℕ). tail_end (47 ∷ 42 ∷ x)) whole
    ∙ block_ends (text ++ 42 ∷ 47 ∷ more) more (sym close)
    ∙ tail_again fs rest q.1 ends
tail_again (Line text ∷ fs) rest form ends =
    let p = and_parts (list_all in_line text) _ form in
    let q = and_parts (not (begins_with (filler_goes_on (Line text)) (fillers_spelling fs))) (is_tail fs) p.1 in
    let none : fillers_spelling fs ≡ [] = empty_tail fs q.1 (not-true _ q.0) in
    let whole : (text ++ fillers_spelling fs) ++ rest ≡ text ++ rest = ap (λ (x : List ℕ). (text ++ x) ++ rest) none ∙ ap (λ (x : List ℕ). x ++ rest) (append-nil text) in
    ap (λ (x : List ℕ). tail_end (47 ∷ 47 ∷ x)) whole
    ∙ line_is (text ++ rest)
    ∙ ap LineEnds (after_whole in_line text rest p.0 ends)

-- ---- a line by its word

-- the word of a line stands behind spaces
pub record IsWord (spaces word behind : List ℕ) : Type 0 where
  pub spaces_are : list_all is_space spaces ≡ true
  pub no_space : begins_with is_space (word ++ behind) ≡ false
  pub word_is : list_all is_name_byte word ≡ true
  pub ends : begins_with is_name_byte behind ≡ false

module _ (spaces word behind : List ℕ) (w : IsWord spaces word behind) where
  word_at : after_run is_space (spaces ++ (word ++ behind)) ≡ word ++ behind
  word_at = after_whole is_space spaces (word ++ behind) w.spaces_are w.no_space

  front_at : front_run is_name_byte (after_run is_space (spaces ++ (word ++ behind))) ≡ word
  front_at = ap (front_run is_name_byte) word_at ∙ front_whole is_name_byte word behind w.word_is w.ends

  behind_at : after_run is_name_byte (after_run is_space (spaces ++ (word ++ behind))) ≡ behind
  behind_at = ap (after_run is_name_byte) word_at ∙ after_whole is_name_byte word behind w.word_is w.ends

  pub line_is_word : line_end (spaces ++ (word ++ behind)) ≡ word_end word behind
  line_is_word =
      ap (λ (x : List ℕ). word_end x (after_run is_name_byte (after_run is_space (spaces ++ (word ++ behind))))) front_at
      ∙ ap (word_end word) behind_at

  pub tokens_by_word : (total : ℕ) → line_tokens total (35 ∷ (spaces ++ (word ++ behind))) ≡ cond (same_bytes word (codes "include")) [] (define_between total (35 ∷ (spaces ++ (word ++ behind))) behind)
  tokens_by_word total =
      ap (λ (x : List ℕ). cond (same_bytes x (codes "include")) [] (define_between total (35 ∷ (spaces ++ (word ++ behind))) (after_run is_name_byte (after_run is_space (spaces ++ (word ++ behind)))))) front_at
      ∙ ap (λ (x : List ℕ). cond (same_bytes word (codes "include")) [] (define_between total (35 ∷ (spaces ++ (word ++ behind))) x)) behind_at

pub at_hash : (total : ℕ) (tokens : List PlainToken) (bytes : List ℕ) → step total tokens true 35 bytes ≡ line_step total tokens (35 ∷ bytes)
unfolding step
at_hash total tokens bytes = refl

-- ---- a line that is skipped

text_ends : (text rest : List ℕ) → begins_with is_name_byte text ≡ false → begins_with in_line rest ≡ false → begins_with is_name_byte (text ++ rest) ≡ false
text_ends [] rest f ends = begins_by is_name_byte in_line name_in_line rest ends
text_ends (byte ∷ text) rest f ends = f

pub included : (total : ℕ) (tokens : List PlainToken) (line : IncludeLine) (rest : List ℕ) → is_include line ≡ true → begins_with in_line rest ≡ false → step_at total tokens true (include_spelling line ++ rest) ≡ Goes (tokens ++ []) false rest
included total tokens line rest form ends =
    let p = and_parts (list_all is_space line.spaces) _ form in
    let q = and_parts (not (begins_with is_name_byte line.text)) _ p.1 in
    let behind = line.text ++ rest in
    let w : IsWord line.spaces (codes "include") behind = record { spaces_are = p.0; no_space = refl; word_is = refl; ends = text_ends line.text rest (not-true _ q.0) ends } in
    let bytes = line.spaces ++ (codes "include" ++ behind) in
    let whole : (line.spaces ++ (codes "include" ++ line.text)) ++ rest ≡ bytes = append_assoc line.spaces (codes "include" ++ line.text) rest in
    let end : line_end bytes ≡ LineEnds rest = line_is_word line.spaces (codes "include") behind w ∙ ap LineEnds (after_whole in_line line.text rest q.1 ends) in
    ap (λ (x : List ℕ). step total tokens true 35 x) whole
    ∙ at_hash total tokens bytes
    ∙ ap (line_step_of total tokens (35 ∷ bytes)) end
    ∙ ap (λ (x : List PlainToken). Goes (tokens ++ x) false rest) (tokens_by_word line.spaces (codes "include") behind w total)
