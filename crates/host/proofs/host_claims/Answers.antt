-- `host::host_claims` meets its contract: each claim is a law of `ClaimLaws` or `LineLaws`. Assumes nothing.
use Rattle.host.proofs.LineLaws.{fault_is}
use Rattle.host.proofs.ClaimLaws as claim
use Rattle.host.proofs.host_claims.Goals as goal

pub returns : goal.returns
returns c = record {
  written = claim.written _ _;
  refused = claim.refused _ _;
  short = claim.short _ _;
  refused_where = claim.refused_where;
  written_where = claim.written_where;
  short_where = claim.short_where;
  line_check = claim.line_check;
  line-place = fault_is;
  no_place = claim.no_place;
  too_many = claim.too_many;
  count-over = claim.count-over;
  empty-reads = claim.empty-reads;
  empty-written = claim.empty-written;
  empty-answer = claim.empty-answer;
  how-written = claim.how-written;
  written_apart = claim.written_apart;
  k8_written = claim.k8_written;
  slot-written = claim.slot-written;
}
