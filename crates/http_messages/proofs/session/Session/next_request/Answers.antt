use Rattle.std.proofs.Common.{arith, ap, length, refl, subst, List, ℕ}
use Rattle.http_messages.specs.inner.Searching.{IsSearched, IsFoundFrame, Needs}
use Rattle.http_messages.proofs.RequestCheckLemmas.{needs_now, same_room}
use Rattle.http_messages.proofs.FrameLemmas.{needs_nothing}
use Rattle.http_messages.proofs.SearchLemmas.{searched_none}
use Rattle.http_messages.proofs.session.Session.next_request.Goals as goal

pub returns-then-as_slice-self-clause-first : goal.returns-then-as_slice-self-clause-first
returns-then-as_slice-self-clause-first c =
    rw (← c.self.view_is)
    (needs_now _ _ c.self.inside.needed c.self.invariant.needs (omega (arith, c.if-as_slice-self.true, ap length c.as_slice.ensures)), refl)

pub invariant_of-self-in-More : goal.invariant_of-self-in-More
invariant_of-self-in-More c =
    let found = subst (IsFoundFrame c.self.inside.max_body c.as_slice-2.result.now) c.in-More.is c.in_ok-found.ensures.found in record {
      searched = subst (λ (bytes : List ℕ). IsSearched bytes c.find_frame.new.search) c.as_slice-2.ensures c.find_frame.ensures.searched;
      needs = subst (λ (bytes : List ℕ). Needs c.self.inside.max_body bytes c.in-More.needed) c.as_slice-2.ensures found.1;
      room = same_room c.find_frame.new.spans c.self.inside.spans.items c.self.inside.spans.len _ (omega (arith, c.self.inside.spans.ok)) c.self.invariant.room;
    }

pub invariant_of-self : goal.invariant_of-self
invariant_of-self c = record {
  searched = subst (λ (bytes : List ℕ). IsSearched bytes c.find_frame.new.search) c.as_slice-2.ensures c.find_frame.ensures.searched;
  needs = c.self.invariant.needs;
  room = same_room c.find_frame.new.spans c.self.inside.spans.items c.self.inside.spans.len _ (omega (arith, c.self.inside.spans.ok)) c.self.invariant.room;
}

pub invariant_of-self-in_default : goal.invariant_of-self-in_default
invariant_of-self-in_default c = rw c.in_default.ensures.err (record {
  searched = subst (λ (bytes : List ℕ). IsSearched bytes c.find_frame.new.search) c.as_slice-2.ensures c.find_frame.ensures.searched;
  needs = c.self.invariant.needs;
  room = same_room c.find_frame.new.spans c.self.inside.spans.items c.self.inside.spans.len _ (omega (arith, c.self.inside.spans.ok)) c.self.invariant.room;
})

pub invariant_of-self-in-Refused : goal.invariant_of-self-in-Refused
invariant_of-self-in-Refused c = record {
  searched = subst (λ (bytes : List ℕ). IsSearched bytes c.find_frame.new.search) c.as_slice-2.ensures c.find_frame.ensures.searched;
  needs = c.self.invariant.needs;
  room = same_room c.find_frame.new.spans c.self.inside.spans.items c.self.inside.spans.len _ (omega (arith, c.self.inside.spans.ok)) c.self.invariant.room;
}

pub invariant_of-self-in-Request : goal.invariant_of-self-in-Request
invariant_of-self-in-Request c = record {
  searched = searched_none _ _ c.new-self-inside.ensures.0 c.new-self-inside.ensures.1;
  needs = needs_nothing _ _;
  room = same_room c.find_frame.new.spans c.self.inside.spans.items c.self.inside.spans.len _ (omega (arith, c.self.inside.spans.ok)) c.self.invariant.room;
}
