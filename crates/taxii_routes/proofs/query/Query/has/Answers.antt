use Rattle.taxii_routes.specs.declared.param.Param.TheVariants.{AddedAfter, Limit, Next, MatchId, MatchType, MatchVersion, MatchSpec}
use Rattle.taxii_routes.proofs.FieldLemmas.{has_asked}
use Rattle.taxii_routes.proofs.query.Query.has.Goals as goal

pub returns-in-AddedAfter : goal.returns-in-AddedAfter
returns-in-AddedAfter c = has_asked c.args.param AddedAfter c.args.self.now c.is_some.result c.in-AddedAfter.is c.is_some.ensures

pub returns-in-Limit : goal.returns-in-Limit
returns-in-Limit c = has_asked c.args.param Limit c.args.self.now c.is_some-in-Limit.result c.in-Limit.is c.is_some-in-Limit.ensures

pub returns-in-Next : goal.returns-in-Next
returns-in-Next c = has_asked c.args.param Next c.args.self.now c.is_some-in-Next.result c.in-Next.is c.is_some-in-Next.ensures

pub returns-in-MatchId : goal.returns-in-MatchId
returns-in-MatchId c = has_asked c.args.param MatchId c.args.self.now c.is_some-in-MatchId.result c.in-MatchId.is c.is_some-in-MatchId.ensures

pub returns-in-MatchType : goal.returns-in-MatchType
returns-in-MatchType c = has_asked c.args.param MatchType c.args.self.now c.is_some-in-MatchType.result c.in-MatchType.is c.is_some-in-MatchType.ensures

pub returns-in-MatchVersion : goal.returns-in-MatchVersion
returns-in-MatchVersion c = has_asked c.args.param MatchVersion c.args.self.now c.is_some-in-MatchVersion.result c.in-MatchVersion.is c.is_some-in-MatchVersion.ensures

pub returns-in-MatchSpec : goal.returns-in-MatchSpec
returns-in-MatchSpec c = has_asked c.args.param MatchSpec c.args.self.now c.is_some-in-MatchSpec.result c.in-MatchSpec.is c.is_some-in-MatchSpec.ensures
