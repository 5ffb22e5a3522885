use Rattle.std.proofs.Common.{rules, ◌≡◌, ◌<◌, length, get_or}
use Rattle.cl_front.proofs.FrontLaws.{token_place}
use Rattle.cl_front.proofs.front.place_of.Goals as goal

pub returns-in-Some : goal.returns-in-Some
returns-in-Some c =
    let within : c.args.token < length c.args.tokens.now = search rules in
    let is : c.in-Some.token.now ≡ get_or c.args.tokens.now c.args.token c.in-Some.token.now = search rules in
    token_place c.args.source.now c.args.tokens.now c.args.token c.in-Some.token.now within is
