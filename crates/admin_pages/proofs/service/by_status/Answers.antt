use Rattle.std.specs.Fmt.{digits}
use Rattle.admin_pages.proofs.service.by_status.Goals as goal

pub returns : goal.returns
unfolding digits
returns c = rw (c.sample.ensures, c.sample-2.ensures, c.sample-3.ensures, c.sample-4.ensures, c.sample-5.ensures, c.sample-6.ensures, c.sample-7.ensures, c.sample-8.ensures, c.sample-9.ensures, c.sample-10.ensures, c.sample-11.ensures)
