-- Each figure of a tenant has its word and its metric's name, and each family of the page its own name, which shows its
-- kind, and no help needs an escape: the lists are gone through.
use Rattle.std.proofs.Common.{refl}
use Rattle.admin_pages.specs.Law.{EachHasItsName, EachHasItsWord, NamesAreUnique, NamesShowKinds, ServiceHelpsArePlain, TenantHelpsArePlain}
use Rattle.admin_pages.specs.declared.tenant_metric.TenantMetric.TheVariants.{Accepted, Undecided, Pending, Queued, Active, Exported, NotSampled, TooEarly, QueueFull, RetryExhausted, BackEndRefused, BackEndRejected, Invalid, OverBudget, Rows, UndecidedRows, RowsLimit, SpansLimit, QueuedBatches, QueuedBatchesLimit, QueuedBytes, QueuedBytesLimit, Ready, BackEndStatus, BackEndStatusMoment}

pub each_has_its_word : EachHasItsWord
each_has_its_word Accepted = refl
each_has_its_word Undecided = refl
each_has_its_word Pending = refl
each_has_its_word Queued = refl
each_has_its_word Active = refl
each_has_its_word Exported = refl
each_has_its_word NotSampled = refl
each_has_its_word TooEarly = refl
each_has_its_word QueueFull = refl
each_has_its_word RetryExhausted = refl
each_has_its_word BackEndRefused = refl
each_has_its_word BackEndRejected = refl
each_has_its_word Invalid = refl
each_has_its_word OverBudget = refl
each_has_its_word Rows = refl
each_has_its_word UndecidedRows = refl
each_has_its_word RowsLimit = refl
each_has_its_word SpansLimit = refl
each_has_its_word QueuedBatches = refl
each_has_its_word QueuedBatchesLimit = refl
each_has_its_word QueuedBytes = refl
each_has_its_word QueuedBytesLimit = refl
each_has_its_word Ready = refl
each_has_its_word BackEndStatus = refl
each_has_its_word BackEndStatusMoment = refl

pub each_has_its_name : EachHasItsName
each_has_its_name Accepted = refl
each_has_its_name Undecided = refl
each_has_its_name Pending = refl
each_has_its_name Queued = refl
each_has_its_name Active = refl
each_has_its_name Exported = refl
each_has_its_name NotSampled = refl
each_has_its_name TooEarly = refl
each_has_its_name QueueFull = refl
each_has_its_name RetryExhausted = refl
each_has_its_name BackEndRefused = refl
each_has_its_name BackEndRejected = refl
each_has_its_name Invalid = refl
each_has_its_name OverBudget = refl
each_has_its_name Rows = refl
each_has_its_name UndecidedRows = refl
each_has_its_name RowsLimit = refl
each_has_its_name SpansLimit = refl
each_has_its_name QueuedBatches = refl
each_has_its_name QueuedBatchesLimit = refl
each_has_its_name QueuedBytes = refl
each_has_its_name QueuedBytesLimit = refl
each_has_its_name Ready = refl
each_has_its_name BackEndStatus = refl
each_has_its_name BackEndStatusMoment = refl

pub names_are_unique : NamesAreUnique
names_are_unique f = refl

pub names_show_kinds : NamesShowKinds
names_show_kinds f = refl

pub tenant_helps_are_plain : TenantHelpsArePlain
tenant_helps_are_plain Accepted = refl
tenant_helps_are_plain Undecided = refl
tenant_helps_are_plain Pending = refl
tenant_helps_are_plain Queued = refl
tenant_helps_are_plain Active = refl
tenant_helps_are_plain Exported = refl
tenant_helps_are_plain NotSampled = refl
tenant_helps_are_plain TooEarly = refl
tenant_helps_are_plain QueueFull = refl
tenant_helps_are_plain RetryExhausted = refl
tenant_helps_are_plain BackEndRefused = refl
tenant_helps_are_plain BackEndRejected = refl
tenant_helps_are_plain Invalid = refl
tenant_helps_are_plain OverBudget = refl
tenant_helps_are_plain Rows = refl
tenant_helps_are_plain UndecidedRows = refl
tenant_helps_are_plain RowsLimit = refl
tenant_helps_are_plain SpansLimit = refl
tenant_helps_are_plain QueuedBatches = refl
tenant_helps_are_plain QueuedBatchesLimit = refl
tenant_helps_are_plain QueuedBytes = refl
tenant_helps_are_plain QueuedBytesLimit = refl
tenant_helps_are_plain Ready = refl
tenant_helps_are_plain BackEndStatus = refl
tenant_helps_are_plain BackEndStatusMoment = refl

pub service_helps_are_plain : ServiceHelpsArePlain
service_helps_are_plain f = refl
