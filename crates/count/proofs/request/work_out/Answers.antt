-- Narrowing of the network either leaves early, or its ranges are read off into the three buffers.
use native.Mathlib.Omega.{arith}
use Rattle.std.proofs.lemmas.Result.{err_from_is_err_and}
use Rattle.counting.specs.Counting.{counting_of}
use Rattle.count.specs.Answer.{Buffers}
use Rattle.count.proofs.Answering.{judged_network, domains_fit, lows_fit, highs_fit, counted, left_early}
use Rattle.count.proofs.request.work_out.Goals as goal

pub narrow_network-requires-clause-plan : goal.narrow_network-requires-clause-plan
narrow_network-requires-clause-plan c =
    let b : Buffers = record { domains = c.args.new_domains.now; lows = c.args.lows.now; highs = c.args.highs.now } in
    judged_network c.args.domains.now c.args.counts.now b c.requires

pub narrow_network-requires-clause-whole : goal.narrow_network-requires-clause-whole
narrow_network-requires-clause-whole c =
    let b : Buffers = record { domains = c.args.new_domains.now; lows = c.args.lows.now; highs = c.args.highs.now } in
    let fits = judged_network c.args.domains.now c.args.counts.now b c.requires in
    (fits.arcs_fit, fits.arcs_fit)

pub returns-in_err-narrow_network : goal.returns-in_err-narrow_network
returns-in_err-narrow_network c =
    let b : Buffers = record { domains = c.args.new_domains.now; lows = c.args.lows.now; highs = c.args.highs.now } in
    let fits = judged_network c.args.domains.now c.args.counts.now b c.requires in
    let e = err_from_is_err_and c.from_residual.result c.from_residual.ensures.1 in
    rw (e.1, e.2) (left_early c.args.domains.now c.args.counts.now b c.requires c.in_err-narrow_network.field-0.0 fits.arcs_fit fits.arcs_fit (rw c.in_err-narrow_network.was at c.narrow_network.ensures))

pub write_domains-requires : goal.write_domains-requires
write_domains-requires c =
    let b : Buffers = record { domains = c.args.new_domains.now; lows = c.args.lows.now; highs = c.args.highs.now } in
    let fits = judged_network c.args.domains.now c.args.counts.now b c.requires in
    (omega (arith, fits.arcs_fit, c.narrow_network.auto.highs), omega (arith, fits.nodes_fit), domains_fit c.args.domains.now c.args.counts.now b c.requires)

pub write_counts-requires : goal.write_counts-requires
write_counts-requires c =
    let b : Buffers = record { domains = c.args.new_domains.now; lows = c.args.lows.now; highs = c.args.highs.now } in
    let fits = judged_network c.args.domains.now c.args.counts.now b c.requires in
    (omega (arith, fits.arcs_fit, c.narrow_network.auto.lows), lows_fit c.args.domains.now c.args.counts.now b c.requires)

pub write_counts-requires-2 : goal.write_counts-requires-2
write_counts-requires-2 c =
    let b : Buffers = record { domains = c.args.new_domains.now; lows = c.args.lows.now; highs = c.args.highs.now } in
    let fits = judged_network c.args.domains.now c.args.counts.now b c.requires in
    (omega (arith, fits.arcs_fit, c.narrow_network.auto.highs), highs_fit c.args.domains.now c.args.counts.now b c.requires)

pub returns : goal.returns
returns c =
    let b : Buffers = record { domains = c.args.new_domains.now; lows = c.args.lows.now; highs = c.args.highs.now } in
    let b' : Buffers = record { domains = c.write_domains.new.domains; lows = c.write_counts.new.counts; highs = c.write_counts-2.new.counts } in
    let said = rw c.in_ok-narrow_network.was at c.narrow_network.ensures in
    record {
      says = (c.requires, counted (counting_of c.args.domains.now c.args.counts.now) b b' said.says.1 c.write_domains.ensures c.write_counts.ensures c.write_counts-2.ensures);
      domains_length = c.write_domains.auto.domains;
      lows_length = c.write_counts.auto.counts;
      highs_length = c.write_counts-2.auto.counts;
    }
