use Rattle.std.proofs.Common.{rules, ◌≡◌, ◌-◌, ◌<◌, suc, List, [], ◌∷◌, ◌++◌, length, None, Some, ap, ap₂, refl, sym, subst, ◌∙◌, arith}
use Rattle.std.proofs.lemmas.Result.{IfOk-weaker}
use Rattle.json.specs.Token.{Token}
use Rattle.json.specs.Json.{parse_map, after_end_array, read_key, items, members, value}
use Rattle.json.specs.Reads.{token_of}
use Rattle.json.proofs.Grammar.{value_is, value-begin_array, value-begin_object, read_key-shorter}
use Rattle.serde_json.specs.Data.{null, boolean, number, string, array, object, put, no_members}
use Rattle.serde_json.specs.Read.{of_json, of_items, of_members, converted}
use Rattle.stix_json.specs.declared.raw_members.RawMember.{RawMember}
use Rattle.stix_json.specs.inner.Insertion.{insert_all}
use Rattle.stix_json.specs.inner.Checking.{IsCheckedAs, AreRawMembers, member_name}
use Rattle.stix_json.proofs.ValueErrorsLemmas.{data_of-String, data_of-Bool}
use Rattle.stix_json.proofs.InsertionLemmas.{insert_pushed}
use Rattle.stix_json.proofs.TokensLemmas.{converted-array, converted-object, item_read, item_refused, items_over, member_read, member_refused, key_refused, members_over, items_before, items_before-no_items, one_more_item, none_before, number_token}
use Rattle.stix_json.proofs.CheckedLemmas.{list_within, object_within, gathered_insert, read_error_under, read_error_since, read_error_at, no_number}
use Rattle.stix_json.proofs.tokens.+take.Goals as goal

pub check_token-returns-then-left-eq0-clause-err : goal.check_token-returns-then-left-eq0-clause-err
unfolding value
check_token-returns-then-left-eq0-clause-err t c =
    let none : c.args.left ≡ 0 = omega arith in
    ap (converted of_json) (ap₂ value none (ap (λ k. token_of k ∷ c.args.reader.now) c.in-BeginArray.is))

pub check_token-returns-then-left-eq0-2-clause-err : goal.check_token-returns-then-left-eq0-2-clause-err
unfolding value
check_token-returns-then-left-eq0-2-clause-err t c =
    let none : c.args.left ≡ 0 = omega arith in
    ap (converted of_json) (ap₂ value none (ap (λ k. token_of k ∷ c.args.reader.now) c.in-BeginObject.is))

pub check_token-returns-in_err-checked-in-BeginArray-clause-err : goal.check_token-returns-in_err-checked-in-BeginArray-clause-err
check_token-returns-in_err-checked-in-BeginArray-clause-err t c =
    let r = c.args.reader.now in
    let some : 0 < c.args.left = omega arith in
    let opened = ap (converted of_json) (ap (λ k. value c.args.left (token_of k ∷ r)) c.in-BeginArray.is ∙ value-begin_array c.args.left r some)
    ∙ converted-array (items (value (c.args.left - 1)) (length r) r) in
    let told = read_error_under c.take_items.result array (converted of_items (items (value (c.args.left - 1)) (length r) r)) _ opened c.take_items.ensures.err in
    search (rules, told)

pub check_token-returns-in_err-checked-in-BeginObject-clause-err : goal.check_token-returns-in_err-checked-in-BeginObject-clause-err
check_token-returns-in_err-checked-in-BeginObject-clause-err t c =
    let r = c.args.reader.now in
    let some : 0 < c.args.left = omega arith in
    let opened = ap (converted of_json) (ap (λ k. value c.args.left (token_of k ∷ r)) c.in-BeginObject.is ∙ value-begin_object c.args.left r some)
    ∙ converted-object (members (value (c.args.left - 1)) (length r) r) in
    let told = read_error_under c.take_members.result object (converted (λ ms. of_members ms no_members) (members (value (c.args.left - 1)) (length r) r)) _ opened c.take_members.ensures.err in
    search (rules, told)

pub check_token-returns-in_ok-text-in-String-clause-ok : goal.check_token-returns-in_ok-text-in-String-clause-ok
check_token-returns-in_ok-text-in-String-clause-ok t c =
    let r = c.args.reader.now in
    let is : token_of c.args.token ≡ Token.string c.in-String.text.now = ap token_of c.in-String.is in (
      string c.in-String.text.now,
      ap (converted of_json) (ap (λ (k : Token). value c.args.left (k ∷ r)) is ∙ value_is c.args.left _),
      (refl, data_of-String _ _ c.in_ok-text-in-String.ensures),
    )

pub check_token-returns-in-Bool-clause-ok : goal.check_token-returns-in-Bool-clause-ok
check_token-returns-in-Bool-clause-ok t c =
    let r = c.args.reader.now in
    let is : token_of c.args.token ≡ Token.boolean c.in-Bool.truth = ap token_of c.in-Bool.is in (
      boolean c.in-Bool.truth,
      ap (converted of_json) (ap (λ (k : Token). value c.args.left (k ∷ r)) is ∙ value_is c.args.left _),
      (refl, data_of-Bool c.in-Bool.truth),
    )

pub check_token-returns-in-Null-clause-ok : goal.check_token-returns-in-Null-clause-ok
check_token-returns-in-Null-clause-ok t c =
    let r = c.args.reader.now in
    let is : token_of c.args.token ≡ Token.null = ap token_of c.in-Null.is in (
      null,
      ap (converted of_json) (ap (λ (k : Token). value c.args.left (k ∷ r)) is ∙ value_is c.args.left _),
      ap Some (sym c.here.ensures),
    )

pub check_token-returns-in-Number-clause-ok : goal.check_token-returns-in-Number-clause-ok
check_token-returns-in-Number-clause-ok t c =
    let r = c.args.reader.now in
    let is : token_of c.args.token ≡ Token.number c.in-Number.text.now = ap token_of c.in-Number.is in
    let read = ap (converted of_json) (ap (λ (k : Token). value c.args.left (k ∷ r)) is ∙ value_is c.args.left _) in
    IfOk-weaker c.check_number.result _ _ (λ checked found. (number found.0, read ∙ number_token c.in-Number.text.now r found.0 found.1, found.2 c.args.levels)) c.check_number.ensures.ok

pub check_token-returns-in-Number-clause-err : goal.check_token-returns-in-Number-clause-err
check_token-returns-in-Number-clause-err t c =
    let r = c.args.reader.now in
    let is : token_of c.args.token ≡ Token.number c.in-Number.text.now = ap token_of c.in-Number.is in
    let read = ap (converted of_json) (ap (λ (k : Token). value c.args.left (k ∷ r)) is ∙ value_is c.args.left _) in
    no_number c.check_number.result c.in-Number.text.now r _ read c.check_number.ensures.err

pub check_token-returns-in_ok-checked-in-BeginArray-clause-ok : goal.check_token-returns-in_ok-checked-in-BeginArray-clause-ok
check_token-returns-in_ok-checked-in-BeginArray-clause-ok t c =
    let r = c.args.reader.now in
    let some : 0 < c.args.left = omega arith in
    let opened = ap (converted of_json) (ap (λ k. value c.args.left (token_of k ∷ r)) c.in-BeginArray.is ∙ value-begin_array c.args.left r some)
    ∙ converted-array (items (value (c.args.left - 1)) (length r) r) in
    let found = c.in_ok-checked-in-BeginArray.ensures.ok in
    let less : c.saturating_sub.result ≡ c.args.levels - 1 = omega arith in (
      array found.0,
      opened ∙ ap (parse_map array) found.1,
      list_within c.args.levels found.0 c.in_ok-checked-in-BeginArray.checked c.within-in-BeginArray.result (subst (λ n. IsCheckedAs (suc n) (array found.0) c.in_ok-checked-in-BeginArray.checked) less found.2)
          c.within-in-BeginArray.ensures.deep c.within-in-BeginArray.ensures.same,
    )

pub check_token-returns-in_ok-checked-in-BeginObject-clause-ok : goal.check_token-returns-in_ok-checked-in-BeginObject-clause-ok
check_token-returns-in_ok-checked-in-BeginObject-clause-ok t c =
    let r = c.args.reader.now in
    let some : 0 < c.args.left = omega arith in
    let opened = ap (converted of_json) (ap (λ k. value c.args.left (token_of k ∷ r)) c.in-BeginObject.is ∙ value-begin_object c.args.left r some)
    ∙ converted-object (members (value (c.args.left - 1)) (length r) r) in
    let found = c.in_ok-checked-in-BeginObject.ensures.ok in
    let less : c.saturating_sub-in-BeginObject.result ≡ c.args.levels - 1 = omega arith in (
      object found.0,
      opened ∙ ap (parse_map object) found.1,
      object_within c.args.levels found.0 c.in_ok-checked-in-BeginObject.checked c.within-in-BeginObject.result (subst (λ n. IsCheckedAs (suc n) (object found.0) c.in_ok-checked-in-BeginObject.checked) less found.2)
          c.within-in-BeginObject.ensures.deep c.within-in-BeginObject.ensures.same,
    )

pub check_token-returns-in-EndObject-clause-err : goal.check_token-returns-in-EndObject-clause-err
check_token-returns-in-EndObject-clause-err t c =
    let none : value c.args.left (token_of c.args.token ∷ c.args.reader.now) ≡ None = rw (value_is c.args.left (token_of c.args.token ∷ c.args.reader.now)) (grind arith) in
    ap (converted of_json) none

pub take_value-returns-in-None-clause-err : goal.take_value-returns-in-None-clause-err
take_value-returns-in-None-clause-err t c =
    let empty : c.args.reader.now ≡ [] = grind arith in
    ap (converted of_json) (ap (value c.args.left) empty ∙ value_is c.args.left [])

pub take_items-items-init : goal.take_items-items-init
take_items-items-init t c =
    let all = converted of_items (items (value c.args.left) (length c.args.reader.now) c.args.reader.now) in
    (length c.args.reader.now, omega arith, [], none_before all, c.in_ok-elements.ensures c.args.levels, omega arith)

pub take_items-returns-in_err-checked-clause-err : goal.take_items-returns-in_err-checked-clause-err
take_items-returns-in_err-checked-clause-err t c =
    let p = value c.args.left in
    let l = c.items in
    let n = l.invariant.0 in
    let going : (after_end_array l.reader ≡ None) × (c.take_end_array.new.self ≡ l.reader) = grind arith in
    let told = read_error_since c.take_value.result (converted of_json (p c.take_end_array.new.self)) _
    (λ none. l.invariant.3 ∙ ap (parse_map (items_before l.invariant.2)) (item_refused p n l.reader going.0 (rw (← going.1) none))) c.take_value.ensures.err in
    search (rules, told)

pub take_items-items-preserved : goal.take_items-items-preserved
take_items-items-preserved t c =
    let p = value c.args.left in
    let l = c.items in
    let n = l.invariant.0 in
    let ds = l.invariant.2 in
    let going : (after_end_array l.reader ≡ None) × (c.take_end_array.new.self ≡ l.reader) = grind arith in
    let found = c.in_ok-checked.ensures.ok in
    let d = found.0 in
    let r = c.take_value.new.reader in
    let less : length r < length l.reader = rw (← going.1) c.in_ok-checked.ensures.shorter in
    let turn = item_read p n l.reader r d (omega (arith, l.invariant.1)) going.0 (rw (← going.1) found.1) in (
      n - 1,
      omega (arith, l.invariant.1),
      ds ++ d ∷ [],
      l.invariant.3 ∙ ap (parse_map (items_before ds)) turn ∙ one_more_item ds d _,
      c.in_ok-push.ensures c.args.levels ds d l.invariant.4 found.2,
      omega (arith, l.invariant.5),
    )

pub take_items-returns-clause-ok : goal.take_items-returns-clause-ok
take_items-returns-clause-ok t c =
    let p = value c.args.left in
    let l = c.items in
    let n = l.invariant.0 in
    let r = c.take_end_array.new.self in
    let ds = l.invariant.2 in
    let read = l.invariant.3 ∙ ap (parse_map (items_before ds)) (items_over p n l.reader r l.invariant.1 (grind arith)) ∙ ap (λ es. Some (es, r)) (items_before-no_items ds) in
    (_, read, c.in_ok-into_checked.ensures c.args.levels ds l.invariant.4)

pub take_members-members-init : goal.take_members-members-init
take_members-members-init t c =
    (length c.args.reader.now, omega arith, no_members, refl, search rules, omega arith)

pub take_members-returns-in_err-name-clause-err : goal.take_members-returns-in_err-name-clause-err
take_members-returns-in_err-name-clause-err t c =
    let l = c.members in
    read_error_at c.from_residual-in_err-name.result _ (l.invariant.3 ∙ key_refused (value c.args.left) l.invariant.2 l.invariant.0 l.reader c.in_err-name.ensures.value)

pub take_members-returns-in_err-checked-clause-err : goal.take_members-returns-in_err-checked-clause-err
take_members-returns-in_err-checked-clause-err t c =
    let p = value c.args.left in
    let l = c.members in
    let n = l.invariant.0 in
    let old = l.invariant.2 in
    let k = c.in-Some.name.now in
    let s = c.next_key.new.self in
    let named : read_key l.reader ≡ Some (Some k, s) = search rules in
    let told = read_error_since c.take_value.result (converted of_json (p s)) _
    (λ none. l.invariant.3 ∙ member_refused p old n k l.reader s named none) c.take_value.ensures.err in
    search (rules, told)

pub take_members-members-preserved : goal.take_members-members-preserved
take_members-members-preserved t c =
    let p = value c.args.left in
    let l = c.members in
    let n = l.invariant.0 in
    let old = l.invariant.2 in
    let k = c.in-Some.name.now in
    let s = c.next_key.new.self in
    let named : read_key l.reader ≡ Some (Some k, s) = search rules in
    let found = c.in_ok-checked.ensures.ok in
    let d = found.0 in
    let r = c.take_value.new.reader in
    let less = read_key-shorter l.reader (Some k) s named in
    let lesser = c.in_ok-checked.ensures.shorter in
    let one : RawMember = record { name = c.in_ok-name-2.name; checked = c.in_ok-checked.checked } in
    let turn = member_read p old n k l.reader s r d (omega (arith, less, l.invariant.1)) named found.1 in (
      n - 1,
      omega (arith, l.invariant.1, less, lesser),
      put k d old,
      l.invariant.3 ∙ turn,
      subst (λ (gs : List RawMember). AreRawMembers c.args.levels (put k d old) (insert_all member_name gs [])) (sym c.in_ok-push_member.ensures) (subst (AreRawMembers c.args.levels (put k d old)) (sym (insert_pushed member_name l.raw_members.items one []))
          (gathered_insert c.args.levels k d old one (insert_all member_name l.raw_members.items []) c.in_ok-name-2.ensures found.2 l.invariant.4)),
      omega (arith, l.invariant.5, less, lesser),
    )

pub take_members-returns-clause-ok : goal.take_members-returns-clause-ok
take_members-returns-clause-ok t c =
    let p = value c.args.left in
    let l = c.members in
    let n = l.invariant.0 in
    let r = c.next_key.new.self in
    let over : read_key l.reader ≡ Some (None, r) = search rules in
    let raw_members = subst (AreRawMembers c.args.levels l.invariant.2) (sym c.in_ok-ordered.ensures) l.invariant.4 in
    (l.invariant.2, l.invariant.3 ∙ members_over p l.invariant.2 n l.reader r l.invariant.1 over, c.in_ok-check_members.ensures c.args.levels l.invariant.2 raw_members)
