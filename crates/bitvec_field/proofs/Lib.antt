mod Numbers
mod SegmentsFrom
mod Written
