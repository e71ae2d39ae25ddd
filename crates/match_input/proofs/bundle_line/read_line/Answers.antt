use Rattle.match_input.proofs.bundle_line.read_line.Goals as goal

pub returns-in-Err-clause-refused : goal.returns-in-Err-clause-refused
returns-in-Err-clause-refused c = rw c.in-Err.is at (c.in_ok-json.ensures.refused c.args.last c.args.next)

pub returns-in-Err-2-clause-refused : goal.returns-in-Err-2-clause-refused
returns-in-Err-2-clause-refused c =
    let json = rw c.in-Ok.is at c.in_ok-json.ensures.ok in
    rw c.in-Err-2.is at (c.in_ok-bundle.ensures.refused c.args.last c.args.next c.args.bytes.now json)

pub returns-clause-ok : goal.returns-clause-ok
returns-clause-ok c =
    let json = rw c.in-Ok.is at c.in_ok-json.ensures.ok in
    let bundle = rw c.in-Ok-2.is at c.in_ok-bundle.ensures.ok in
    c.in_order.ensures.ok c.args.bytes.now (record { value = c.in-Ok.json; json = json; bundle = bundle })

pub returns-clause-refused : goal.returns-clause-refused
returns-clause-refused c =
    let json = rw c.in-Ok.is at c.in_ok-json.ensures.ok in
    let bundle = rw c.in-Ok-2.is at c.in_ok-bundle.ensures.ok in
    c.in_order.ensures.refused c.args.bytes.now (record { value = c.in-Ok.json; json = json; bundle = bundle })
