use Rattle.std.proofs.Common.{rules, arith, [], inr, refl, subst, ◌∙◌}
use Rattle.flow_links.specs.Doors.{GivesNext}
use Rattle.taxii_server.proofs.ClientsLemmas.{no_pass, none_yet, one_more}
use Rattle.taxii_server.proofs.door.serve_door.Goals as goal

pub returns-in_err-listen-clause-serves : goal.returns-in_err-listen-clause-serves
returns-in_err-listen-clause-serves g c =
    ([], refl, no_pass _, omega arith, inr (search rules, refl, c.in_err-listen.ensures.err), search rules)

pub loop-served-init : goal.loop-served-init
loop-served-init g c = record {
  agrees = c.requires.agrees;
  keeper = refl;
  config = refl;
  so_far = none_yet _ _ _ _ _ _ _ c.in_ok-listen.ensures.ok;
  most = omega arith;
  quiet = c.in_ok-listen.ensures.causes.quiet (λ failed. absurd (cc failed));
}

pub loop-served-preserved : goal.loop-served-preserved
loop-served-preserved g c =
    let before = c.loop-served.invariant in record {
      agrees = c.serve_client.ensures.agrees;
      keeper = c.serve_client.ensures.keeper ∙ before.keeper;
      config = c.serve_client.ensures.config ∙ before.config;
      so_far = one_more _ _ _ _ _ _ _ _ _ _ _ _ _ _ _ _ _ before.so_far
          (subst (λ found. GivesNext found (g.D.Door.observable c.loop-served.door) (g.D.Door.observable c.next.new.self)) c.in-Some.is c.in_ok-link.ensures.ok) before.config
          c.serve_client.ensures.serves c.serve_client.ensures.few;
      most = search rules;
      quiet = c.serve_client.ensures.quiet ∙ c.in_ok-link.ensures.causes.quiet (λ failed. absurd (cc failed)) ∙ before.quiet;
    }
