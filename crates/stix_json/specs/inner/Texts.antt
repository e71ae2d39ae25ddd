-- For private clauses: the text of a `JsonText`.
use Rattle.std.specs.Prelude.{ℕ, List, slice_range}
use Rattle.stix_json.specs.declared.json_text.TextSlice.{TextSlice}
use Rattle.stix_json.specs.declared.json_text.TextForm.{TextForm}
use Rattle.stix_json.specs.declared.json_text.TextForm.TheVariants.{TextSlice as SliceOf, Owned}

-- the text of a slice
abbrev pub slice_text : TextSlice → List ℕ
slice_text part = slice_range part.whole.value part.start part.end

-- the text of a string: a slice, or an owned copy
abbrev pub text_of_string : TextForm → List ℕ
text_of_string (SliceOf part) = slice_text part
text_of_string (Owned text) = text.value
