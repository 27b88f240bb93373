use Rattle.sgdma.proofs.Answered.{report-told}
use Rattle.sgdma.proofs.put_run.Goals as goal

pub put_image-requires : goal.put_image-requires
put_image-requires c = record { m_value = c.requires.machine_value; image_len = c.requires.image_len.0 }

pub returns-then-r-ne0 : goal.returns-then-r-ne0
returns-then-r-ne0 c = record { leaves = record { lent = c.put_image.ensures.lent }; leaves_2 = report-told c.args.r _ c.args.report.now c.requires.image_len.1 c.into.ensures.value c.put_report.ensures }

pub returns-else-r-ne0 : goal.returns-else-r-ne0
returns-else-r-ne0 c = record { leaves = record { lent = c.requires.image_value c.if-r-ne0.false }; leaves_2 = report-told c.args.r _ c.args.report.now c.requires.image_len.1 c.into.ensures.value c.put_report.ensures }
